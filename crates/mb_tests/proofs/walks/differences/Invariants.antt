use Rattle.std.proofs.Common.{All, length, ◌≡◌}
use Rattle.mb_matrix.specs.Matrix.{IsMove}
use Rattle.mb_tests.proofs.walks.differences.Given as goal

abbrev pub invariant-loop-cell : goal.invariant-loop-cell
invariant-loop-cell l =
    (l.moves.width ≡ length l.matrix.columns) × All (IsMove l.matrix) l.moves.rows
