use Rattle.std.proofs.Common.{drop, ◌≡◌}
use Rattle.mb_walk.specs.Owned.{mixed}
use Rattle.mb_walk.proofs.owner.mixed.Given as goal

abbrev pub invariant-loop-cell : goal.invariant-loop-cell
invariant-loop-cell l = mixed l.number (drop l.cell l.count-items) ≡ mixed 0 l.table
