use Rattle.std.proofs.Common.{length}
use Rattle.mb_order.proofs.OrderLaws.{is_order}
use Rattle.mb_order.proofs.WeightLaws.{symbols-fit}
use Rattle.mb_order.specs.Order.{monomial_cmp}
use Rattle.mb_order.specs.Weight.{symbols}
use Rattle.mb_rules.proofs.NormalForms.{has_normal, normal-leads, one_normal}
use Rattle.mb_rules.proofs.laws.normal_forms.Goals as goal

pub returns : goal.returns
returns c order d columns rules fit valid m w =
    let all = symbols d columns in
    let f = symbols-fit d columns fit in
    let o = is_order order d (length all) in (
      has_normal d all (monomial_cmp order d) rules f o valid m w,
      (λ s t p q h g. one_normal d all (monomial_cmp order d) rules f o valid s t m p q h g),
      (λ t p h. let r = normal-leads d all (monomial_cmp order d) rules f o valid t m p h in
          ((t, r.0), r.1)),
    )
