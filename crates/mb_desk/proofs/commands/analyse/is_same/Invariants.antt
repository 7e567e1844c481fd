use Rattle.std.proofs.Common.{◌<◌, ◌≡◌, ℕ}
use Rattle.mb_desk.proofs.commands.analyse.is_same.Given as goal
use Rattle.mb_matrix.specs.Matrix.{row_of}

-- the rows before this one are the same
abbrev pub invariant-loop-row : goal.invariant-loop-row
invariant-loop-row l = (i : ℕ) → i < l.row → row_of l.a i ≡ row_of l.b i
