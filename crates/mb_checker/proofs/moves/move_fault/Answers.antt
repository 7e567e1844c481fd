use Rattle.std.proofs.Common.{subst, sym}
use Rattle.mb_certificate.proofs.LineFaults.{none-move}
use Rattle.mb_checker.proofs.moves.move_fault.Goals as goal
use Rattle.mb_matrix.specs.Matrix.{Design, IsMove}

pub returns-then-is_move : goal.returns-then-is_move
returns-then-is_move c =
    sym (none-move c.args.certificate.now.matrix c.args.z.now
    (subst (λ (matrix : Design). IsMove matrix c.args.z.now) c.matrix.ensures.matrix
    (c.is_move.ensures.0 c.if-is_move.true)))
