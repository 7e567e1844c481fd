use Rattle.std.proofs.Common.{[], arith, length, subst, ◌∙◌, ◌∷◌}
use Rattle.std.proofs.lemmas.Grind.{common_steps}
use Rattle.std.specs.Option.{IfSome}
use Rattle.mb_order.specs.Monomial.{Exponents}
use Rattle.mb_rules.proofs.RulesInCode.{normal-end, normal-more, step_smaller, taken}
use Rattle.mb_rules.proofs.rules.Rules.reduce_until.Goals as goal
use Rattle.mb_rules.specs.NormalForm.{IsFirst}

pub returns-then-is_at-clause-irreducible : goal.returns-then-is_at-clause-irreducible
returns-then-is_at-clause-irreducible c =
    let rules = c.args.self.now.rules in
    subst (λ stop. IfSome stop (λ (form : Exponents). IsFirst rules (length rules) form.list))
    c.if-is_at.ensures.same c.requires.irreducible

pub returns-then-is_at-clause-normal : goal.returns-then-is_at-clause-normal
returns-then-is_at-clause-normal c =
    c.loop-rules.invariant.so_far [] c.loop-rules.m.list
    (normal-end c.args.self.now.rules c.loop-rules.m.list
    (returns-then-is_at-clause-irreducible c))

pub returns-then-k-rules-clause-normal : goal.returns-then-k-rules-clause-normal
returns-then-k-rules-clause-normal c =
    c.loop-rules.invariant.so_far [] c.loop-rules.m.list
    (normal-end c.args.self.now.rules c.loop-rules.m.list (c.first-k.ensures.first
    ∙ c.if-k-rules.true ∙ c.len-rules.ensures.rules))

pub loop-rules-smaller : goal.loop-rules-smaller
loop-rules-smaller c =
    let list = c.args.self.now in
    let m = c.loop-rules.m.list in
    let s = taken list c.len-rules.ensures.sound c.first-k.result m c.step.new.m.list
    c.loop-rules.invariant.shape.symbols c.first-k.ensures.first
    (grind (arith, common_steps)) c.step.result c.step.ensures.stepped c.step.ensures.refused in
    step_smaller list c.len-rules.ensures.sound c.first-k.result m c.step.new.m.list
    c.loop-rules.invariant.shape.symbols s

pub loop-rules-preserved : goal.loop-rules-preserved
loop-rules-preserved c =
    let list = c.args.self.now in
    let m = c.loop-rules.m.list in
    let s = taken list c.len-rules.ensures.sound c.first-k.result m c.step.new.m.list
    c.loop-rules.invariant.shape.symbols c.first-k.ensures.first
    (grind (arith, common_steps)) c.step.result c.step.ensures.stepped c.step.ensures.refused in
    record {
      so_far = λ trace p h. c.loop-rules.invariant.so_far (c.first-k.result ∷ trace) p
          (normal-more list.rules c.first-k.result trace m c.step.new.m.list p
          c.first-k.ensures.first s h);
      shape = c.step.ensures.shape;
      weight = c.step.ensures.weight ∙ c.loop-rules.invariant.weight;
    }
