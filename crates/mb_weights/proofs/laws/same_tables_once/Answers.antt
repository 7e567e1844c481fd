use Rattle.mb_weights.proofs.TableOrders.{once-permutation}
use Rattle.mb_weights.proofs.laws.same_tables_once.Goals as goal

pub returns : goal.returns
returns c = once-permutation
