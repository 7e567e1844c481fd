use Rattle.std.proofs.Common.{arith, sym}
use Rattle.mb_order.proofs.ExponentLaws.{greater-each}
use Rattle.mb_order.proofs.exponents.raise.Goals as goal

pub returns : goal.returns
returns c =
    greater-each c.loop-k.exponents c.args.exponents.now c.args.others.now
    c.loop-k.invariant.long (sym c.requires) (λ k l. c.loop-k.invariant.done k (grind arith))
