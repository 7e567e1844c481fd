use Rattle.std.proofs.Common.{ℕ, ◌+◌, ◌<◌, ◌≡◌}
use Rattle.mb_checker.proofs.walking.is_table_of.Given as goal
use Rattle.mb_tables.specs.Vectors.{at}

abbrev pub invariant-loop-cell : goal.invariant-loop-cell
invariant-loop-cell l = (i : ℕ) → i < l.cell → at l.table i ≡ at l.m.list (l.m.margins + i)
