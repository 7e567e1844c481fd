use Rattle.mb_registry.proofs.OrderlyRows.{get_not_bad, listed_not_bad, removed_not_bad}
use Rattle.mb_registry.proofs.laws.orderly_is_not_bad.Goals as goal

pub returns : goal.returns
returns c = record {
  get = λ kind asked name bad rows orderly. get_not_bad kind name rows orderly asked bad;
  list = λ asked bad rows orderly. listed_not_bad rows orderly asked bad;
  remove = λ kind asked name bad rows orderly. removed_not_bad kind name rows orderly asked bad;
}
