-- What is tested before the walk is what it asks for.
use Rattle.std.proofs.Common.{sym, ◌∙◌}
use Rattle.mb_desk.proofs.WalkStarts.{is_made, made_cells, made_moves, small_margins}
use Rattle.mb_desk.proofs.commands.reach.walk_from.Goals as goal

pub walk-requires-clause-cells : goal.walk-requires-clause-cells
walk-requires-clause-cells g c κs within =
    c.in_ok-start.ensures.cells ∙ c.width.ensures.width
    ∙ sym (made_cells c.args.grid.now c.in_ok-matrix.matrix
    (is_made c.args.grid.now c.in_ok-matrix.matrix c.width.ensures.sound.each
    c.in_ok-matrix.ensures.design))

pub walk-requires-clause-width : goal.walk-requires-clause-width
walk-requires-clause-width g c κs within =
    c.in_ok-count_judged.ensures.width
    ∙ sym (made_cells c.args.grid.now c.in_ok-matrix.matrix
    (is_made c.args.grid.now c.in_ok-matrix.matrix c.width.ensures.sound.each
    c.in_ok-matrix.ensures.design))

pub walk-requires-clause-moves : goal.walk-requires-clause-moves
walk-requires-clause-moves g c κs within =
    made_moves c.args.grid.now c.in_ok-matrix.matrix c.width.ensures.sound.each
    (is_made c.args.grid.now c.in_ok-matrix.matrix c.width.ensures.sound.each
    c.in_ok-matrix.ensures.design)
    c.args.moves.now.rows c.in_ok-count_judged.ensures.each

pub walk-requires-clause-margins : goal.walk-requires-clause-margins
walk-requires-clause-margins g c κs within =
    small_margins c.args.grid.now c.in_ok-matrix.matrix
    (is_made c.args.grid.now c.in_ok-matrix.matrix c.width.ensures.sound.each
    c.in_ok-matrix.ensures.design)
    c.in_ok-start.start c.in_ok-start.ensures.total
