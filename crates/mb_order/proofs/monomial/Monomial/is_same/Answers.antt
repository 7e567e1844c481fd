use Rattle.std.proofs.Common.{sym, ◌∙◌}
use Rattle.mb_order.proofs.ExponentLaws.{differs-by, divides-same, same-by}
use Rattle.mb_order.proofs.monomial.Monomial.is_same.Goals as goal

pub returns-then-not-divides-clause-differs : goal.returns-then-not-divides-clause-differs
returns-then-not-divides-clause-differs c e =
    let divides = divides-same c.args.self.now c.args.other.now e in
    let f = c.divides.ensures in
    let g = c.if-not-divides.true in
    absurd cc

pub returns-clause-same : goal.returns-clause-same
returns-clause-same c =
    same-by c.args.self.now c.args.other.now _ c.requires
    (sym c.divides.ensures ∙ c.if-not-divides.false) c.divides-2.ensures

pub returns-clause-differs : goal.returns-clause-differs
returns-clause-differs c =
    differs-by c.args.self.now c.args.other.now _ c.divides-2.ensures
