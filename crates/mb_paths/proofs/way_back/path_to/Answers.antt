use Rattle.std.proofs.Common.{List, SFits, [], arith, get_or, length, reverse, rules, subst, sym, w64, ℕ, ◌++◌, ◌<◌, ◌∷◌, ◌≡◌}
use Rattle.std.proofs.lemmas.Int.{to_z-of_z}
use Rattle.std.proofs.lemmas.Option.{slice_get_read}
use Rattle.mb_paths.proofs.WayBack.{least-none, parent-before, parent-goes_on, parent-reached, parent-there, turned-push}
use Rattle.mb_paths.proofs.way_back.path_to.Goals as goal
use Rattle.mb_rings.specs.ShortestPath.{IsLeastPath}

pub index-requires : goal.index-requires
index-requires c =
    let tables = c.args.tree.now.tables.items in
    let l = parent-there c.args.moves.now.rows (get_or tables 0 []) tables
    c.args.tree.now.parents.items c.requires.born c.loop-here.here c.loop-here.invariant.within
    c.loop-here-test.true in
    let long = c.args.tree.now.parents.ok.0 in omega arith

pub step_between-requires-clause-parent : goal.step_between-requires-clause-parent
step_between-requires-clause-parent c =
    let tables = c.args.tree.now.tables.items in
    let parents = c.args.tree.now.parents.items in
    let moves = c.args.moves.now.rows in
    let here = c.loop-here.here in
    let within = c.loop-here.invariant.within in
    let later = c.loop-here-test.true in
    let l = parent-there moves (get_or tables 0 []) tables parents c.requires.born
    here within later in
    let is = slice_get_read parents (length parents) here c.index.result.now (omega arith) l
    c.index.ensures in
    let m = parent-before moves (get_or tables 0 []) tables parents
    c.requires.born here within later
    c.index.result.now is in omega arith

pub step_between-requires-clause-goes_on : goal.step_between-requires-clause-goes_on
step_between-requires-clause-goes_on c =
    let tables = c.args.tree.now.tables.items in
    let parents = c.args.tree.now.parents.items in
    let moves = c.args.moves.now.rows in
    let here = c.loop-here.here in
    let within = c.loop-here.invariant.within in
    let later = c.loop-here-test.true in
    let l = parent-there moves (get_or tables 0 []) tables parents c.requires.born
    here within later in
    parent-goes_on moves (get_or tables 0 []) tables parents c.requires.born here within later
    c.index.result.now
    (slice_get_read parents (length parents) here c.index.result.now (omega arith) l
    c.index.ensures)

pub step_between-requires-clause-reached : goal.step_between-requires-clause-reached
step_between-requires-clause-reached c =
    let tables = c.args.tree.now.tables.items in
    let parents = c.args.tree.now.parents.items in
    let moves = c.args.moves.now.rows in
    let here = c.loop-here.here in
    let within = c.loop-here.invariant.within in
    let later = c.loop-here-test.true in
    let l = parent-there moves (get_or tables 0 []) tables parents c.requires.born
    here within later in
    parent-reached moves (get_or tables 0 []) tables parents c.requires.born here within later
    c.index.result.now
    (slice_get_read parents (length parents) here c.index.result.now (omega arith) l
    c.index.ensures)

-- the parent stands before the table
before : (c : goal.In_ok-push) → c.index.result.now < c.loop-here.here
before c =
    let tables = c.args.tree.now.tables.items in
    let parents = c.args.tree.now.parents.items in
    let moves = c.args.moves.now.rows in
    let here = c.loop-here.here in
    let within = c.loop-here.invariant.within in
    let later = c.loop-here-test.true in
    let l = parent-there moves (get_or tables 0 []) tables parents c.requires.born
    here within later in
    parent-before moves (get_or tables 0 []) tables parents c.requires.born here within later
    c.index.result.now
    (slice_get_read parents (length parents) here c.index.result.now (omega arith) l
    c.index.ensures)

pub loop-here-smaller : goal.loop-here-smaller
loop-here-smaller c = before c

pub loop-here-preserved : goal.loop-here-preserved
loop-here-preserved c =
    let l = before c in
    let m = c.loop-here.invariant.within in
    let moves = c.args.moves.now.rows in
    let tables = c.args.tree.now.tables.items in
    let step = c.in_ok-step_between.field-0 in
    let f : SFits w64 step = search rules in
    let pushed : c.push.new.self.items ≡ c.loop-here.steps.items ++ step ∷ [] =
    simp to_z-of_z at c.in_ok-push.ensures.items in
    record {
      within = omega arith;
      leads = λ path p.
          subst (λ list. IsLeastPath moves (get_or tables 0 []) (path ++ reverse list)
          (get_or tables c.args.place [])) (sym pushed)
          (subst (λ list. IsLeastPath moves (get_or tables 0 []) list
          (get_or tables c.args.place [])) (turned-push path c.loop-here.steps.items step)
          (c.loop-here.invariant.leads (path ++ step ∷ []) (c.in_ok-step_between.ensures path p)));
    }

pub returns : goal.returns
returns c =
    let moves = c.args.moves.now.rows in
    let tables = c.args.tree.now.tables.items in
    let start : List ℕ = get_or tables 0 [] in
    let first : c.loop-here.here ≡ 0 = c.loop-here-test.false in
    subst (λ list. IsLeastPath moves start list (get_or tables c.args.place []))
    (sym c.reverse.ensures.items)
    (c.loop-here.invariant.leads []
    (subst (λ k. IsLeastPath moves start [] (get_or tables k [])) (sym first)
    (least-none moves start)))
