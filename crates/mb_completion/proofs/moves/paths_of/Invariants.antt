use Rattle.std.proofs.Common.{◌≡◌}
use Rattle.mb_completion.proofs.moves.paths_of.Given as goal
use Rattle.mb_completion.specs.Made.{paths_from}
use Rattle.mb_completion.specs.loops.Making.{free_below}

abbrev pub invariant-loop-k : goal.invariant-loop-k
invariant-loop-k l = l.paths.items
    ≡ paths_from 0 (free_below l.rules.matrix.rows l.rules.rules l.k)
