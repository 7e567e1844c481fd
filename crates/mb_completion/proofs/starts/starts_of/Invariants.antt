use Rattle.std.proofs.Common.{All, Some, length, slice_get, ℕ, ◌≡◌}
use Rattle.mb_certificate.specs.Certificate.{IsStart, Start}
use Rattle.mb_completion.proofs.starts.starts_of.Given as goal
use Rattle.mb_completion.specs.Made.{IsNormalStart}

abbrev pub invariant-loop-cell : goal.invariant-loop-cell
invariant-loop-cell l = record {
  long : length l.starts.items ≡ l.cell;
  normal : (j : ℕ) (start : Start) → slice_get l.starts.items j ≡ Some start →
      IsNormalStart l.rules.matrix l.rules.rules j start;
  sound : All IsStart l.starts.items;
}
