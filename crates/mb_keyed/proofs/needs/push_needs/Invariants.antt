use Rattle.std.proofs.Common.{drop, ◌++◌, ◌≡◌}
use Rattle.mb_keyed.specs.loops.Needs.{needs_of}
use Rattle.mb_keyed.proofs.needs.push_needs.Given as goal

abbrev pub invariant-loop-cell : goal.invariant-loop-cell
invariant-loop-cell l =
    l.needs.items ++ needs_of l.sign l.cell (drop l.cell l.z)
    ≡ l.initial.needs.items ++ needs_of l.sign 0 l.z
