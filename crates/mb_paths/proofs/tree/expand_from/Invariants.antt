use Rattle.std.proofs.Common.{drop, ◌-◌, ◌≤◌}
use Rattle.std.specs.List.Sorted.{IsPermutation}
use Rattle.mb_paths.specs.loops.Tree.{IsTree}
use Rattle.mb_paths.proofs.tree.expand_from.Given as goal
use Rattle.mb_rings.proofs.PlacesBelow.{NearBelow}
use Rattle.mb_rings.proofs.SearchSteps.{IsSearching}

abbrev pub invariant-loop-place : goal.invariant-loop-place
invariant-loop-place l = record {
  from : l.first ≤ l.place;
  searching : IsSearching (NearBelow l.moves.rows (drop l.first l.initial.tree.tables.items)
      (l.place - l.first)) l.limit l.initial.tree.visited l.tree.visited
      l.initial.tree.tables.items l.tree.tables.items;
  known : IsPermutation l.tree.tables.items l.tree.visited;
  tree : IsTree l.moves.rows l.tree.tables.items l.tree.parents.items l.place;
}
