use Rattle.std.proofs.Common.{drop, length, min, ◌+◌, ◌-◌}
use Rattle.mb_matrix.specs.Matrix.{fiber_of}
use Rattle.mb_paths.proofs.GrownTrees.{IsGrown}
use Rattle.mb_paths.proofs.between_tables.between.Given as goal

abbrev pub invariant-loop-tree : goal.invariant-loop-tree
invariant-loop-tree l =
    IsGrown (fiber_of l.matrix l.from) l.moves.rows l.from l.limit l.tree.tables.items
    l.tree.parents.items l.tree.visited l.first

abbrev pub decreases-loop-tree : goal.decreases-loop-tree
decreases-loop-tree l =
    (l.limit - length l.tree.visited) + min 1 (length (drop l.first l.tree.tables.items))
