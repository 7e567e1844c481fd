use Rattle.std.proofs.Common.{rules, subst, sym, ◌∙◌, ◌≡◌}
use Rattle.mb_certificate.specs.Sides.{AreHeld}
use Rattle.mb_completion.proofs.MadeParts.{are_held}
use Rattle.mb_completion.proofs.ValidMade.{made_certificate}
use Rattle.mb_completion.specs.Made.{AreNormalJoins, AreNormalStarts, moves_of, paths_of}
use Rattle.mb_completion.proofs.making.make.Goals as goal
use Rattle.mb_matrix.specs.Matrix.{Design, IsDesign}
use Rattle.mb_order.specs.declared.order.Order.{Order}

pub new-requires : goal.new-requires
new-requires c =
    let list = c.args.completed.now.rules in
    let moves = c.in_ok-moves.moves in
    let pairs = c.in_ok-pairs.pairs.items in
    let starts = c.in_ok-starts.starts.items in
    let joins = c.in_ok-joins.joins.items in
    let paths = c.in_ok-paths.paths.items in
    let held = are_held list moves pairs starts joins paths c.len-rules.ensures.sound
    c.len-moves.ensures.sound c.in_ok-moves.ensures.width c.in_ok-pairs.ensures.rules
    c.in_ok-pairs.ensures.shape c.in_ok-pairs.ensures.sound c.in_ok-starts.ensures.normal
    c.in_ok-starts.ensures.sound c.in_ok-joins.ensures.normal c.in_ok-joins.ensures.sound
    c.in_ok-paths.ensures in
    subst (λ (m : Design). AreHeld m c.order.result moves pairs starts joins paths)
    (c.requires.matrix ∙ sym c.in_ok-copy.ensures)
    (subst (λ (o : Order). AreHeld list.matrix o moves pairs starts joins paths)
    (sym c.order.ensures) held)

pub returns-clause-valid : goal.returns-clause-valid
returns-clause-valid c = λ basis.
    let matrix = c.args.matrix.now in
    let list = c.args.completed.now.rules in
    let made = c.new.result in
    let same : made.matrix ≡ matrix = search rules in
    let order : made.order ≡ list.order = search rules in
    let rules_are : made.rules ≡ list.rules = search rules in
    let moves : made.moves ≡ moves_of matrix.rows list.rules = search rules in
    let starts : AreNormalStarts matrix list.rules made.starts = search rules in
    let joins : AreNormalJoins list.rules made.joins = search rules in
    let paths : made.paths ≡ paths_of matrix.rows list.rules = search rules in
    made_certificate matrix list.order list.rules made
    (subst IsDesign c.requires.matrix c.len-rules.ensures.sound.design) c.requires.peaks same order
    rules_are moves starts joins paths basis
