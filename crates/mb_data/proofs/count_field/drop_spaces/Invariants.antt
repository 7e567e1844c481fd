use Rattle.std.proofs.Common.{take, ◌≡◌, ◌≤◌}
use Rattle.mb_data.specs.CountField.{before_spaces}
use Rattle.mb_data.proofs.count_field.drop_spaces.Given as goal

abbrev pub invariant-loop-place : goal.invariant-loop-place
invariant-loop-place l =
    (before_spaces (take l.place l.field) ≡ take l.kept l.field) × (l.kept ≤ l.place)
