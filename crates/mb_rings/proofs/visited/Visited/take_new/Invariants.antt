use Rattle.std.proofs.Common.{map}
use Rattle.std.specs.Map.Iter.{deref}
use Rattle.mb_rings.specs.loops.Found.{FindsMore}
use Rattle.mb_rings.proofs.visited.Visited.take_new.Given as goal
use Rattle.mb_tables.specs.Lists.{In}

abbrev pub invariant-loop-table : goal.invariant-loop-table
invariant-loop-table l =
    FindsMore (λ v. In v (map deref l.yielded)) l.initial.self l.self l.initial.next.items
    l.next.items
