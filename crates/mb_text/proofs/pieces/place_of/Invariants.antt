use Rattle.std.proofs.Common.{eqb, false, get_or, ℕ, ◌<◌, ◌≡◌}
use Rattle.mb_text.proofs.pieces.place_of.Given as goal

abbrev pub invariant-loop-place : goal.invariant-loop-place
invariant-loop-place l = (k : ℕ) → k < l.place → eqb (get_or l.text k 0) l.byte ≡ false
