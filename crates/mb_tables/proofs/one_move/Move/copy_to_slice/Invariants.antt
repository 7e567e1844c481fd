use Rattle.std.proofs.Common.{get_or, pos, ℕ, ◌<◌, ◌≡◌}
use Rattle.mb_tables.proofs.one_move.Move.copy_to_slice.Given as goal

abbrev pub invariant-loop-cell : goal.invariant-loop-cell
invariant-loop-cell l =
    (k : ℕ) → k < l.cell → get_or l.entries k (pos 0) ≡ get_or l.self k (pos 0)
