use Rattle.std.proofs.Common.{None, drop, false, get_or, pos, take, ℕ, ◌*◌, ◌<◌, ◌≡◌}
use Rattle.std.specs.List.{position}
use Rattle.mb_matrix.specs.loops.Kept.{fails}
use Rattle.mb_matrix.proofs.entries.first_failing.Given as goal

abbrev pub invariant-loop-row : goal.invariant-loop-row
invariant-loop-row l = record {
  first : (i : ℕ) → i < l.row →
      position (fails l.test) (take l.cols (drop (i * l.cols) l.entries)) ≡ None;
  none : (k : ℕ) → k < l.row * l.cols → fails l.test (get_or l.entries k (pos 0)) ≡ false;
}
