use Rattle.std.proofs.Common.{List, [], arith, get_or, length, subst, sym, ℕ, ◌+◌, ◌-◌, ◌∙◌, ◌≡◌}
use Rattle.std.proofs.lemmas.List.Sorted.{length_permutation}
use Rattle.std.proofs.lemmas.Grind.{common_steps}
use Rattle.std.proofs.lemmas.Option.{gets, slice_get-get_or}
use Rattle.mb_paths.proofs.TreeSteps.{adds-longer, parents-each, tree-more}
use Rattle.mb_paths.specs.loops.Tree.{IsTree}
use Rattle.mb_paths.proofs.tree.expand_place.Goals as goal
use Rattle.mb_rings.proofs.DistinctTables.{permutation-In}
use Rattle.mb_rings.proofs.TurnSteps.{turn-within}
use Rattle.mb_rings.specs.loops.InTurn.{AddsInTurn, turns_of}

pub overflow_cast-place : goal.overflow_cast-place
overflow_cast-place c =
    let e = length_permutation c.args.tree.now.tables.items c.args.tree.now.visited
    c.requires.known in
    let l = c.requires.place in
    let m = c.requires.room in
    let n = c.requires.small in omega arith

pub returns-clause-tree : goal.returns-clause-tree
returns-clause-tree c =
    let moves = c.args.moves.now.rows in
    let tables = c.args.tree.now.tables.items in
    let parents = c.args.tree.now.parents.items in
    let visited = c.args.tree.now.visited in
    let place = c.args.place in
    let new = c.take_steps.new.next.items in
    let u : List ℕ = get_or tables place [] in
    let read : c.index.result.now ≡ u = grind (arith, common_steps, gets) in
    let same : c.in_ok-scratch.scratch ≡ u = c.in_ok-scratch.ensures ∙ read in
    let added : AddsInTurn moves u (turns_of (length moves)) visited tables new =
    subst (λ t. AddsInTurn moves t (turns_of (length moves)) visited tables new) same
    c.in_ok-take_steps.ensures.in_turn in
    let longer = adds-longer moves u (turns_of (length moves)) visited tables new added in
    let each = parents-each moves tables parents place c.requires.tree in
    subst (λ list. IsTree moves new list (place + 1)) (sym c.in_ok-note_parents.ensures)
    (tree-more moves tables parents place c.requires.tree u
    (slice_get-get_or tables place [] c.requires.place) visited new
    (λ v i. permutation-In tables visited v c.requires.known i) (turns_of (length moves))
    (λ step v h. turn-within moves step u v h) added (c.len.result - length parents)
    (let n = c.len.ensures in omega arith))
