use Rattle.mb_completion.proofs.moves.paths_of.Goals as goal
use Rattle.mb_completion.specs.Made.{paths_from}

pub loop-k-init : goal.loop-k-init
unfolding paths_from
loop-k-init c = c.new-paths.ensures.items
