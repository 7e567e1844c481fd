use Rattle.std.proofs.Common.{Some, [], arith, drop, get_or, length, min, slice_get, subst, sym, ◌+◌, ◌-◌, ◌<◌, ◌∙◌, ◌∷◌, ◌≡◌}
use Rattle.std.proofs.lemmas.Option.{get_or_from_slice_get}
use Rattle.mb_matrix.specs.Matrix.{fiber_of}
use Rattle.mb_paths.proofs.GrownTrees.{IsGrown, answers-handed_on, grown-apart, grown-born, grown-fiber, grown-joined, grown-over, grown-smaller, grown-start, grown-step}
use Rattle.mb_paths.proofs.TreePaths.{tree-one}
use Rattle.mb_paths.specs.loops.Tree.{AreBorn, IsTree}
use Rattle.mb_paths.proofs.between_tables.between.Goals as goal
use Rattle.mb_rings.proofs.DistinctTables.{In-permutation}
use Rattle.mb_rings.proofs.FiberSteps.{fiber-only, fiber-walkable}
use Rattle.mb_rings.specs.ShortestPath.{IsLeastPath}
use Rattle.mb_tables.proofs.ListLaws.{place-in, place-within}
use Rattle.mb_tables.specs.Lists.{In}

pub loop-tree-init : goal.loop-tree-init
loop-tree-init c =
    let moves = c.args.moves.now.rows in
    let start = c.args.from.now in
    let e = c.in_ok-tree.ensures.tables in
    let f = c.in_ok-tree.ensures.parents in
    let one = tree-one moves start in
    grown-start (fiber_of c.args.matrix.now start) moves start c.args.limit
    c.in_ok-tree.tree.tables.items c.in_ok-tree.tree.parents.items c.in_ok-tree.tree.visited e
    (subst (λ tables. IsTree moves tables c.in_ok-tree.tree.parents.items 0) (sym e)
    (subst (λ parents. IsTree moves (start ∷ []) parents 0) (sym f) one))
    c.in_ok-tree.ensures.visited c.requires.some

pub expand_from-requires-clause-widths : goal.expand_from-requires-clause-widths
expand_from-requires-clause-widths c u i =
    let matrix = c.args.matrix.now in
    let start = c.args.from.now in
    let moves = c.args.moves.now.rows in
    let walkable =
    fiber-walkable matrix c.cols.ensures.sound start moves c.requires.moves c.requires.cells
    c.requires.margins in
    let there =
    grown-fiber (fiber_of matrix start) moves start c.args.limit c.loop-tree.tree.tables.items
    c.loop-tree.tree.parents.items c.loop-tree.tree.visited c.loop-tree.first
    c.loop-tree.invariant walkable u i in
    (fiber-only matrix c.cols.ensures.sound start u there).0 ∙ sym c.requires.width

pub returns-in_err-expand_from : goal.returns-in_err-expand_from
returns-in_err-expand_from c =
    let matrix = c.args.matrix.now in
    let start = c.args.from.now in
    let moves = c.args.moves.now.rows in
    let fault = c.in_err-expand_from.field-0.0 in
    let walkable =
    fiber-walkable matrix c.cols.ensures.sound start moves c.requires.moves c.requires.cells
    c.requires.margins in
    answers-handed_on c.args.limit matrix moves start c.args.to.now
    c.from_residual-in_err-expand_from.result fault c.from_residual-in_err-expand_from.ensures.1
    (grown-over matrix moves start c.args.to.now c.args.limit c.loop-tree.tree.tables.items
    c.loop-tree.tree.parents.items c.loop-tree.tree.visited c.loop-tree.first
    c.loop-tree.invariant walkable c.loop-tree-test.ensures.missed fault
    c.in_err-expand_from.ensures.refused)

pub loop-tree-smaller : goal.loop-tree-smaller
loop-tree-smaller c =
    let matrix = c.args.matrix.now in
    let start = c.args.from.now in
    let moves = c.args.moves.now.rows in
    let tables = c.loop-tree.tree.tables.items in
    let visited = c.loop-tree.tree.visited in
    let first = c.loop-tree.first in
    let new = c.expand_from.new.tree.tables.items in
    let after = c.expand_from.new.tree.visited in
    let limit = c.args.limit in
    let walkable =
    fiber-walkable matrix c.cols.ensures.sound start moves c.requires.moves c.requires.cells
    c.requires.margins in
    let same : length tables ≡ c.len-end.result = let e = c.len-end.ensures in omega arith in
    subst (λ n. (limit - length after) + min 1 (length (drop n new))
    < (limit - length visited) + min 1 (length (drop first tables))) same
    (grown-smaller (fiber_of matrix start) moves start limit tables
    c.loop-tree.tree.parents.items visited first c.loop-tree.invariant walkable new after
    c.in_ok-expand_from.ensures.found c.loop-tree-test.ensures.on
    c.in_ok-expand_from.ensures.room)

pub loop-tree-preserved : goal.loop-tree-preserved
loop-tree-preserved c =
    let matrix = c.args.matrix.now in
    let start = c.args.from.now in
    let moves = c.args.moves.now.rows in
    let tables = c.loop-tree.tree.tables.items in
    let new = c.expand_from.new.tree.tables.items in
    let more = c.expand_from.new.tree.parents.items in
    let after = c.expand_from.new.tree.visited in
    let walkable =
    fiber-walkable matrix c.cols.ensures.sound start moves c.requires.moves c.requires.cells
    c.requires.margins in
    let same : length tables ≡ c.len-end.result = let e = c.len-end.ensures in omega arith in
    subst (λ n. IsGrown (fiber_of matrix start) moves start c.args.limit new more after n) same
    (grown-step (fiber_of matrix start) moves start c.args.limit tables
    c.loop-tree.tree.parents.items c.loop-tree.tree.visited c.loop-tree.first
    c.loop-tree.invariant walkable new more after c.in_ok-expand_from.ensures.found
    c.in_ok-expand_from.ensures.tree c.in_ok-expand_from.ensures.room)

pub path_to-requires-clause-place : goal.path_to-requires-clause-place
path_to-requires-clause-place c =
    place-within c.loop-tree.tree.tables.items c.in-Some.place c.args.to.now
    (subst (λ list. slice_get list c.in-Some.place ≡ Some c.args.to.now) c.as_slice.ensures.value
    c.in-Some.ensures.some)

pub path_to-requires-clause-widths : goal.path_to-requires-clause-widths
path_to-requires-clause-widths c u i =
    let matrix = c.args.matrix.now in
    let start = c.args.from.now in
    let moves = c.args.moves.now.rows in
    let walkable =
    fiber-walkable matrix c.cols.ensures.sound start moves c.requires.moves c.requires.cells
    c.requires.margins in
    let there =
    grown-fiber (fiber_of matrix start) moves start c.args.limit c.loop-tree.tree.tables.items
    c.loop-tree.tree.parents.items c.loop-tree.tree.visited c.loop-tree.first
    c.loop-tree.invariant walkable u i in
    (fiber-only matrix c.cols.ensures.sound start u there).0 ∙ sym c.requires.width

pub path_to-requires-clause-born : goal.path_to-requires-clause-born
path_to-requires-clause-born c =
    let matrix = c.args.matrix.now in
    let start = c.args.from.now in
    let moves = c.args.moves.now.rows in
    let tables = c.loop-tree.tree.tables.items in
    let parents = c.loop-tree.tree.parents.items in
    let walkable =
    fiber-walkable matrix c.cols.ensures.sound start moves c.requires.moves c.requires.cells
    c.requires.margins in
    let first = get_or_from_slice_get tables 0 start [] c.loop-tree.invariant.root in
    subst (λ u. AreBorn moves u tables parents) (sym first)
    (grown-born (fiber_of matrix start) moves start c.args.limit tables parents
    c.loop-tree.tree.visited c.loop-tree.first c.loop-tree.invariant walkable)

pub returns-in-Some : goal.returns-in-Some
returns-in-Some c =
    let matrix = c.args.matrix.now in
    let start = c.args.from.now in
    let moves = c.args.moves.now.rows in
    let tables = c.loop-tree.tree.tables.items in
    let steps = c.in_ok-path_to-in-Some.field-0.items in
    let place = c.in-Some.place in
    let v = c.args.to.now in
    let walkable =
    fiber-walkable matrix c.cols.ensures.sound start moves c.requires.moves c.requires.cells
    c.requires.margins in
    let there : slice_get tables place ≡ Some v =
    subst (λ list. slice_get list place ≡ Some v) c.as_slice.ensures.value
    c.in-Some.ensures.some in
    let first = get_or_from_slice_get tables 0 start [] c.loop-tree.invariant.root in
    let last = get_or_from_slice_get tables place v [] there in
    let path : IsLeastPath moves start steps v =
    subst (λ w. IsLeastPath moves start steps w) last
    (subst (λ u. IsLeastPath moves u steps (get_or tables place [])) first
    c.in_ok-path_to-in-Some.ensures) in
    grown-joined matrix moves start v c.args.limit tables c.loop-tree.tree.parents.items
    c.loop-tree.tree.visited c.loop-tree.first c.loop-tree.invariant walkable steps path
    (In-permutation tables c.loop-tree.tree.visited v c.loop-tree.invariant.known
    (place-in tables place v there))

pub returns : goal.returns
returns c =
    let matrix = c.args.matrix.now in
    let start = c.args.from.now in
    let moves = c.args.moves.now.rows in
    let tables = c.loop-tree.tree.tables.items in
    let walkable =
    fiber-walkable matrix c.cols.ensures.sound start moves c.requires.moves c.requires.cells
    c.requires.margins in
    grown-apart matrix moves start c.args.to.now c.args.limit tables
    c.loop-tree.tree.parents.items c.loop-tree.tree.visited c.loop-tree.first
    c.loop-tree.invariant walkable c.loop-tree-test.ensures.over
    (subst (λ list. In c.args.to.now list → ⊥) c.as_slice.ensures.value c.in-None.ensures.none)
