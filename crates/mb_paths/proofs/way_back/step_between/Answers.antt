use Rattle.std.proofs.Common.{List, SFits, [], ap, arith, get_or, length, rules, subst, sym, w64, ℕ, ◌∙◌, ◌≡◌}
use Rattle.std.proofs.lemmas.Grind.{common_steps}
use Rattle.std.proofs.lemmas.Int.{to_z-of_z}
use Rattle.std.proofs.lemmas.Option.{gets}
use Rattle.mb_paths.proofs.WayBack.{FirstLeads, step-goes_on, wide-at}
use Rattle.mb_paths.specs.loops.Tree.{GoesOnBy}
use Rattle.mb_paths.proofs.way_back.step_between.Goals as goal

pub first_step-requires : goal.first_step-requires
first_step-requires c =
    let tables = c.args.tree.now.tables.items in
    let u : List ℕ = get_or tables c.args.parent [] in
    let read : c.index.result.now ≡ u = grind (arith, common_steps, gets) in
    ap length (c.in_ok-from.ensures ∙ read)
    ∙ wide-at tables c.args.moves.now.width c.requires.widths c.args.parent c.requires.parent

pub returns : goal.returns
returns c =
    let moves = c.args.moves.now.rows in
    let tables = c.args.tree.now.tables.items in
    let start : List ℕ = get_or tables 0 [] in
    let u : List ℕ = get_or tables c.args.parent [] in
    let v : List ℕ = get_or tables c.args.place [] in
    let step = c.unwrap.result in
    let f : SFits w64 step = search rules in
    let read : c.index.result.now ≡ u = grind (arith, common_steps, gets) in
    let there : c.index-2.result.now ≡ v = grind (arith, common_steps, gets) in
    let from : c.in_ok-from.from ≡ u = c.in_ok-from.ensures ∙ read in
    let made = subst (λ t. FirstLeads moves t c.index-2.result.now c.first_step.result) from
    (c.first_step.ensures.made, c.first_step.ensures.first) in
    let leads = subst (λ t. FirstLeads moves u t c.first_step.result) there made in
    subst (λ s. GoesOnBy moves start u s v) (sym (to_z-of_z w64 step f))
    (step-goes_on moves start u v c.first_step.result step c.unwrap.ensures leads.0 leads.1
    c.requires.goes_on c.requires.reached)
