use Rattle.std.proofs.Common.{drop, ◌≡◌}
use Rattle.mb_data.specs.CountField.{after_spaces}
use Rattle.mb_data.proofs.count_field.skip_spaces.Given as goal

abbrev pub invariant-loop-place : goal.invariant-loop-place
invariant-loop-place l = after_spaces (drop l.place l.field) ≡ after_spaces l.field
