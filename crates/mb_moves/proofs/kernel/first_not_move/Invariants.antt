use Rattle.std.proofs.Common.{List, get_or, ℕ, ℤ, ◌<◌}
use Rattle.mb_tables.specs.Rows.{IsMoveOf}
use Rattle.mb_moves.proofs.kernel.first_not_move.Given as goal

abbrev pub invariant-loop-k : goal.invariant-loop-k
invariant-loop-k l =
    (n : ℕ) (d : List ℤ) → n < l.k → IsMoveOf l.grid.rows (get_or l.moves.rows n d)
