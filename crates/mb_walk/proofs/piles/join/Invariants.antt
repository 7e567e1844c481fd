use Rattle.std.proofs.Common.{drop, ◌++◌, ◌≡◌}
use Rattle.mb_rings.specs.Ring.{tables_of}
use Rattle.mb_walk.specs.loops.Piles.{joined, kept}
use Rattle.mb_walk.proofs.piles.join.Given as goal

abbrev pub invariant-loop-owner : goal.invariant-loop-owner
invariant-loop-owner l =
    (l.ring.items ++ tables_of (joined (drop l.owner-index l.owners))
    ≡ tables_of (joined l.initial.owners))
    × (kept l.owners ≡ kept l.initial.owners)
