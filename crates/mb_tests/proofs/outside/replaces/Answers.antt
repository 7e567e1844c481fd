use Rattle.std.proofs.Common.{rules}
use Rattle.std.specs.FinMap.{gets}
use Rattle.mb_outside.proofs.KeptRows.{keys_total}
use Rattle.mb_tests.proofs.outside.replaces.Goals as goal

-- one row alone shares its kind and name with none
pub replace_all-requires : goal.replace_all-requires
replace_all-requires c = λ _. search (rules, gets, keys_total)
