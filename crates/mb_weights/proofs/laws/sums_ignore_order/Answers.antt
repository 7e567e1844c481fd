use Rattle.mb_weights.proofs.TableOrders.{below-permutation, whole-permutation}
use Rattle.mb_weights.proofs.laws.sums_ignore_order.Goals as goal

pub returns : goal.returns
returns c = record { whole = whole-permutation; below = below-permutation }
