use Rattle.std.proofs.Common.{ap, subst, sym}
use Rattle.mb_completion.proofs.KeptRules.{lowered_kept, right_light}
use Rattle.mb_completion.proofs.reduction.lowered.Goals as goal
use Rattle.mb_order.specs.Monomial.{Exponents}
use Rattle.mb_order.specs.Weight.{IsLight}
use Rattle.mb_rules.specs.NormalForm.{NormalBy}
use Rattle.mb_rules.specs.Sides.{sides}

pub reduce-requires-clause-light : goal.reduce-requires-clause-light
reduce-requires-clause-light c =
    subst (λ (m : Exponents). IsLight c.args.rules.now.matrix m.list) (sym c.in_ok-right.ensures)
    (right_light c.args.rules.now c.get-rule.ensures.sound.design
    c.get-rule.ensures.sound.valid c.args.k
    (sides c.get-rule.result.now) c.get-rule.ensures.rule c.requires.light)

pub returns-clause-kept : goal.returns-clause-kept
returns-clause-kept c =
    let n = c.reduce.ensures.normal in
    lowered_kept c.args.rules.now c.get-rule.ensures.sound.design
    c.get-rule.ensures.sound.valid c.args.k
    (sides c.get-rule.result.now) c.in_ok-try_copy.field-0.list c.reduce.new.m.list
    c.get-rule.ensures.rule c.requires.minimal
    (ap (λ (m : Exponents). m.list) c.in_ok-try_copy.ensures) (
      n.0,
      subst
          (λ (m : Exponents).
          NormalBy c.args.rules.now.rules n.0 m.list c.reduce.new.m.list) c.in_ok-right.ensures n.1,
    )
