use Rattle.std.proofs.Common.{All, ap, arith, subst, ◌∙◌, ◌≤◌}
use Rattle.std.proofs.lemmas.Grind.{elements}
use Rattle.mb_order.proofs.monomial.Monomial.cells.Goals as goal
use Rattle.mb_order.specs.Monomial.{Exponents}

pub returns-clause-small : goal.returns-clause-small
returns-clause-small c =
    let e = c.as_slice-exponents.ensures.value in
    let f = ap (λ (m : Exponents). m.list) c.self.view_is in
    let h : All (λ n. n ≤ 65535) c.as_slice-exponents.result.now = grind (arith, elements) in
    subst (All (λ n. n ≤ 65535)) (e ∙ f) h
