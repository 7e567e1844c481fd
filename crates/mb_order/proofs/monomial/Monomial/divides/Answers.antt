use Rattle.std.proofs.Common.{arith, sym}
use Rattle.mb_order.proofs.SymbolSets.{no_divisor}
use Rattle.mb_order.proofs.monomial.Monomial.divides.Goals as goal

pub returns-then-self-occurring-ne0 : goal.returns-then-self-occurring-ne0
returns-then-self-occurring-ne0 c =
    rw (← c.self.view_is)
    (rw (← c.other.view_is)
    (sym (no_divisor c.self.inside.set c.other.inside.set c.self.inside.exponents.items
    c.other.inside.exponents.items c.self.invariant.occurring c.other.invariant.occurring
    (let s = c.self.invariant.shape in let f = s.few_margins in let g = s.few_cells in
    omega arith) (omega arith) c.if-self-occurring-ne0.true)))
