use Rattle.std.proofs.Common.{Some, slice_get, ℕ, ◌<◌, ◌≡◌}
use Rattle.mb_paths.proofs.between_tables.place_of.Given as goal

abbrev pub invariant-loop-place : goal.invariant-loop-place
invariant-loop-place l = (k : ℕ) → k < l.place → slice_get l.tables k ≡ Some l.table → ⊥
