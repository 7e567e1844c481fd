use Rattle.std.proofs.Common.{List, [], get_or, length, reverse, ℤ, ◌++◌, ◌<◌}
use Rattle.mb_paths.proofs.way_back.path_to.Given as goal
use Rattle.mb_rings.specs.ShortestPath.{IsLeastPath}

abbrev pub invariant-loop-here : goal.invariant-loop-here
invariant-loop-here l = record {
  within : l.here < length l.tree.tables.items;
  leads : (path : List ℤ) →
      IsLeastPath l.moves.rows (get_or l.tree.tables.items 0 []) path
      (get_or l.tree.tables.items l.here []) →
      IsLeastPath l.moves.rows (get_or l.tree.tables.items 0 [])
      (path ++ reverse l.steps.items) (get_or l.tree.tables.items l.place []);
}

abbrev pub decreases-loop-here : goal.decreases-loop-here
decreases-loop-here l = l.here
