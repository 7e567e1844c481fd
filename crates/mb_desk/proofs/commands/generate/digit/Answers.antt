-- The powers of 3 up to 3^15 fit 32 bits, and none is 0.
use Rattle.std.proofs.Common.{arith}
use Rattle.mb_desk.proofs.SquareModel.{power-fits, power-some}
use Rattle.mb_desk.proofs.commands.generate.digit.Goals as goal

pub pow-requires : goal.pow-requires
pow-requires c = power-fits c.args.j c.requires

pub nonzero_div-result : goal.nonzero_div-result
nonzero_div-result c =
    let some = power-some c.args.j in
    let is = c.pow.ensures in
    omega (arith, some, is)
