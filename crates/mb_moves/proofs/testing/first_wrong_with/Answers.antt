use Rattle.std.proofs.Common.{refl}
use Rattle.mb_moves.proofs.Verdicts.{is_move-no, is_move-yes}
use Rattle.mb_moves.proofs.testing.first_wrong_with.Goals as goal

pub returns-in-None : goal.returns-in-None
returns-in-None c =
    let matrix = c.args.grid.now.rows in
    rw (c.in-None.is, is_move-yes matrix c.args.row.now c.if-is_move_of.ensures) refl

pub returns-in-None-2 : goal.returns-in-None-2
returns-in-None-2 c =
    let matrix = c.args.grid.now.rows in
    rw (c.in-None-2.is, is_move-no matrix c.args.row.now c.if-is_move_of.ensures) refl
