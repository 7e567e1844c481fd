use Rattle.std.proofs.Common.{List, ℕ}
use Rattle.std.specs.FinMap.{len-empty}
use Rattle.mb_outside.specs.Rows.{key_cmp}
use Rattle.mb_keeper_tests.proofs.steps.is_answered.Goals as goal

pub replace_all-requires : goal.replace_all-requires
replace_all-requires g c = len-empty key_cmp (List ℕ)
