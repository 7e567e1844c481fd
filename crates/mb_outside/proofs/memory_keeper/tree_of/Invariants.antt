-- The rows done are the last ones, and the tree stands for them.
use Rattle.std.proofs.Common.{List, ◌++◌, ◌≡◌}
use Rattle.mb_outside.specs.Rows.{rows_of}
use Rattle.mb_outside.specs.RowsInTree.{tree_rows}
use Rattle.mb_outside.specs.declared.keeper.Row.{Row}
use Rattle.mb_outside.proofs.memory_keeper.tree_of.Given as goal

abbrev pub invariant-loop-row : goal.invariant-loop-row
invariant-loop-row l =
    (done : List Row) × (l.rows ≡ l.row-iterator.iter.rest.now ++ done)
    × (tree_rows l.bodies ≡ rows_of done)
