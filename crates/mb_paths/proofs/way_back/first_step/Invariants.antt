use Rattle.std.proofs.Common.{ℤ, ◌<◌, ◌≡◌}
use Rattle.mb_certificate.specs.Valid.{MovesBy}
use Rattle.mb_paths.proofs.way_back.first_step.Given as goal
use Rattle.mb_rings.specs.ShortestPath.{turn}
use Rattle.mb_rings.specs.loops.InTurn.{turns_of}

abbrev pub invariant-loop-k : goal.invariant-loop-k
invariant-loop-k l =
    (l.from ≡ l.initial.from)
    × ((other : ℤ) → turn other < turns_of l.k →
    MovesBy l.moves.rows other l.initial.from l.to → ⊥)
