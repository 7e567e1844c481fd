use Rattle.std.proofs.Common.{List, [], ap, append-nil, append_assoc, arith, subst, sym, ℕ, ◌++◌, ◌∙◌, ◌∷◌}
use Rattle.std.proofs.lemmas.Grind.{common_steps}
use Rattle.mb_rules.proofs.RulesInCode.{normal-end, normal-more, step_smaller, taken}
use Rattle.mb_rules.proofs.rules.Rules.normal.Goals as goal
use Rattle.mb_rules.specs.NormalForm.{NormalBy}

pub loop-form-smaller : goal.loop-form-smaller
loop-form-smaller c =
    let list = c.args.self.now in
    let m = c.loop-form.form.list in
    let s = taken list c.len-rules.ensures.sound c.first-k.result m c.step.new.m.list
    c.loop-form.invariant.shape.symbols c.first-k.ensures.first
    (grind (arith, common_steps)) c.step.result c.step.ensures.stepped c.step.ensures.refused in
    step_smaller list c.len-rules.ensures.sound c.first-k.result m c.step.new.m.list
    c.loop-form.invariant.shape.symbols s

pub loop-form-preserved : goal.loop-form-preserved
loop-form-preserved c =
    let list = c.args.self.now in
    let m = c.loop-form.form.list in
    let k = c.first-k.result in
    let s = taken list c.len-rules.ensures.sound k m c.step.new.m.list
    c.loop-form.invariant.shape.symbols c.first-k.ensures.first
    (grind (arith, common_steps)) c.step.result c.step.ensures.stepped c.step.ensures.refused in
    record {
      so_far = λ trace p h.
          subst (λ (t : List ℕ). NormalBy list.rules t c.args.m.now.list p)
          (sym (ap (λ (t : List ℕ). t ++ trace) c.in_ok-push.ensures.items
          ∙ append_assoc c.loop-form.steps.items (k ∷ []) trace))
          (c.loop-form.invariant.so_far (k ∷ trace) p
          (normal-more list.rules k trace m c.step.new.m.list p c.first-k.ensures.first s h));
      shape = c.step.ensures.shape;
      weight = c.step.ensures.weight ∙ c.loop-form.invariant.weight;
    }

pub returns-then-k-rules-clause-normal : goal.returns-then-k-rules-clause-normal
returns-then-k-rules-clause-normal c =
    let list = c.args.self.now in
    let m = c.loop-form.form.list in
    subst (λ (t : List ℕ). NormalBy list.rules t c.args.m.now.list m)
    (append-nil c.loop-form.steps.items)
    (c.loop-form.invariant.so_far [] m
    (normal-end list.rules m (c.first-k.ensures.first ∙ c.if-k-rules.true
    ∙ c.len-rules.ensures.rules)))
