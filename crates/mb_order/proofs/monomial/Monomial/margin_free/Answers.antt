use Rattle.std.proofs.Common.{arith}
use Rattle.mb_order.proofs.SymbolSets.{margin_free-by_set}
use Rattle.mb_order.proofs.monomial.Monomial.margin_free.Goals as goal

pub returns : goal.returns
returns c =
    rw (← c.self.view_is)
    (margin_free-by_set c.self.inside.set c.self.inside.margins c.self.inside.exponents.items
    c.self.invariant.occurring
    (let s = c.self.invariant.shape in let f = s.few_margins in omega arith))
