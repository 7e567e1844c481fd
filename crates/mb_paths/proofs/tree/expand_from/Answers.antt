use Rattle.std.proofs.Common.{List, [], arith, drop, get_or, length, length-drop, subst, sym, ℕ, ◌++◌, ◌+◌, ◌-◌, ◌≡◌}
use Rattle.std.proofs.lemmas.List.Sorted.{IsPermutation-append_left, IsPermutation-trans}
use Rattle.std.proofs.lemmas.Option.{slice_get-get_or}
use Rattle.std.specs.List.Sorted.{IsPermutation}
use Rattle.mb_paths.proofs.tree.expand_from.Goals as goal
use Rattle.mb_rings.proofs.Expanding.{found-at, over-ring, ring-at, searched-ring, searching-none, searching-ring}
use Rattle.mb_rings.proofs.PlacesBelow.{NearBelow}
use Rattle.mb_rings.proofs.SearchSteps.{IsSearching}
use Rattle.mb_rings.specs.loops.Found.{FindsMore, IsSearchFault}
use Rattle.mb_tables.proofs.HandedOn.{handed_on}
use Rattle.mb_tables.proofs.ListLaws.{place-in}
use Rattle.mb_tables.specs.Step.{IsNear, OneApart}

pub loop-place-init : goal.loop-place-init
loop-place-init c = record {
  from = omega arith;
  searching =
      searching-none (NearBelow c.args.moves.now.rows
      (drop c.args.first c.args.tree.now.tables.items)
      (c.args.first - c.args.first)) c.args.limit c.args.tree.now.visited
      c.args.tree.now.tables.items (λ v h. let l = h.below in omega arith) c.requires.room;
  known = c.requires.known;
  tree = c.requires.tree;
}

pub expand_place-requires-clause-width : goal.expand_place-requires-clause-width
expand_place-requires-clause-width c =
    let same =
    found-at (NearBelow c.args.moves.now.rows (drop c.args.first c.args.tree.now.tables.items)
    (c.loop-place.place - c.args.first)) c.args.limit c.args.tree.now.visited
    c.loop-place.tree.visited c.args.tree.now.tables.items c.loop-place.tree.tables.items
    c.loop-place.place c.loop-place.invariant.searching (omega arith) in
    let tables = c.args.tree.now.tables.items in
    let u : List ℕ = get_or tables c.loop-place.place [] in
    let there = slice_get-get_or tables c.loop-place.place [] (omega arith) in
    subst (λ t. length t ≡ c.args.moves.now.width) (sym same)
    (c.requires.widths u (place-in tables c.loop-place.place u there))

pub returns-in_err-expand_place-clause-refused : goal.returns-in_err-expand_place-clause-refused
returns-in_err-expand_place-clause-refused c =
    let same =
    found-at (NearBelow c.args.moves.now.rows (drop c.args.first c.args.tree.now.tables.items)
    (c.loop-place.place - c.args.first)) c.args.limit c.args.tree.now.visited
    c.loop-place.tree.visited c.args.tree.now.tables.items c.loop-place.tree.tables.items
    c.loop-place.place c.loop-place.invariant.searching (omega arith) in
    let moves = c.args.moves.now.rows in
    let tables = c.args.tree.now.tables.items in
    let ring = drop c.args.first tables in
    let place = c.loop-place.place in
    let fault = c.in_err-expand_place.field-0.0 in
    handed_on c.from_residual.result fault
    (IsSearchFault (IsNear moves ring) c.args.limit c.args.tree.now.visited)
    c.from_residual.ensures.1
    (over-ring moves ring (place - c.args.first) (get_or tables place [])
    (ring-at tables c.args.first place c.loop-place.invariant.from (omega arith)) c.args.limit
    c.args.tree.now.visited tables c.loop-place.tree.visited c.loop-place.tree.tables.items fault
    c.loop-place.invariant.searching
    (subst (λ t. IsSearchFault (OneApart moves t) c.args.limit c.loop-place.tree.visited fault)
    same c.in_err-expand_place.ensures.refused))

pub loop-place-preserved : goal.loop-place-preserved
loop-place-preserved c =
    let same =
    found-at (NearBelow c.args.moves.now.rows (drop c.args.first c.args.tree.now.tables.items)
    (c.loop-place.place - c.args.first)) c.args.limit c.args.tree.now.visited
    c.loop-place.tree.visited c.args.tree.now.tables.items c.loop-place.tree.tables.items
    c.loop-place.place c.loop-place.invariant.searching (omega arith) in
    let moves = c.args.moves.now.rows in
    let tables = c.args.tree.now.tables.items in
    let ring = drop c.args.first tables in
    let place = c.loop-place.place in
    let before = c.args.tree.now.visited in
    let middle = c.loop-place.tree.visited in
    let half = c.loop-place.tree.tables.items in
    let after = c.expand_place.new.tree.visited in
    let more = c.expand_place.new.tree.tables.items in
    let from = c.loop-place.invariant.from in
    let e : (place - c.args.first) + 1 ≡ place + 1 - c.args.first = omega arith in
    let f : FindsMore (OneApart moves (get_or tables place [])) middle after half more =
    subst (λ t. FindsMore (OneApart moves t) middle after half more) same
    c.in_ok-expand_place.ensures.found in
    record {
      from = omega arith;
      searching =
          subst (λ i. IsSearching (NearBelow moves ring i) c.args.limit before after tables more) e
          (searching-ring moves ring (place - c.args.first) (get_or tables place [])
          (ring-at tables c.args.first place from (omega arith)) c.args.limit before tables middle
          half after more c.loop-place.invariant.searching f c.in_ok-expand_place.ensures.room);
      known =
          subst (λ list. IsPermutation list after) (sym f.listed)
          (IsPermutation-trans (half ++ f.found) (middle ++ f.found) after
          (IsPermutation-append_left f.found half middle c.loop-place.invariant.known)
          f.finds.visited);
      tree = c.in_ok-expand_place.ensures.tree;
    }

pub returns-clause-found : goal.returns-clause-found
returns-clause-found c =
    let tables = c.args.tree.now.tables.items in
    let e = length-drop c.args.first tables in
    let from = c.loop-place.invariant.from in
    searched-ring c.args.moves.now.rows (drop c.args.first tables)
    (c.loop-place.place - c.args.first) c.args.limit c.args.tree.now.visited
    c.loop-place.tree.visited tables c.loop-place.tree.tables.items (omega arith)
    c.loop-place.invariant.searching
