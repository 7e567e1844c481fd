use Rattle.std.proofs.Common.{[], ap, append-nil, inl, refl, subst, sym, ◌∙◌}
use Rattle.mb_completion.proofs.LookSteps.{left_divides, right_divides}
use Rattle.mb_completion.proofs.run.look.Goals as goal
use Rattle.mb_matrix.specs.Matrix.{Design}
use Rattle.mb_order.specs.Monomial.{Exponents}
use Rattle.mb_order.specs.Peak.{left_of, sides_of}
use Rattle.mb_order.specs.Rewriting.{made}
use Rattle.mb_order.specs.Weight.{IsLight}
use Rattle.mb_rules.specs.NormalForm.{NormalBy}

pub lower-requires-clause-divides : goal.lower-requires-clause-divides
lower-requires-clause-divides c =
    left_divides (left_of c.args.rules.now.rules c.args.i) (left_of c.args.rules.now.rules c.args.j)
    c.in_ok-p.p.list
    (ap (λ (m : Exponents). m.list) c.in_ok-p.ensures ∙ c.in_ok-m.ensures.peak)

pub lower_beside-requires-clause-divides : goal.lower_beside-requires-clause-divides
lower_beside-requires-clause-divides c =
    right_divides (left_of c.args.rules.now.rules c.args.i)
    (left_of c.args.rules.now.rules c.args.j) c.in_ok-m.m.list c.in_ok-m.ensures.peak

pub returns-then-lower_beside-clause-looked : goal.returns-then-lower_beside-clause-looked
returns-then-lower_beside-clause-looked c =
    let rules = c.args.rules.now.rules in
    let low = sides_of rules c.args.i in
    let high = sides_of rules c.args.j in
    let first = c.lower.ensures.normal in
    let second = c.lower_beside.ensures.normal in
    let top = c.in_ok-m.ensures.peak in
    let same = c.if-lower_beside.ensures.same in
    let light = c.if-not-is_light.ensures.light in (
      [],
      record {
        light = subst (IsLight c.args.rules.now.matrix) top
            (subst (λ (m : Design). IsLight m c.in_ok-m.m.list) c.matrix.ensures light);
        low_trace = first.0;
        high_trace = second.0;
        low_form = c.lower.new.m.list;
        high_form = c.lower_beside.new.m.list;
        low_normal = subst (λ m. NormalBy rules first.0 (made low m) c.lower.new.m.list)
            (ap (λ (m : Exponents). m.list) c.in_ok-p.ensures ∙ top) first.1;
        high_normal =
            subst (λ m. NormalBy rules second.0 (made high m) c.lower_beside.new.m.list) top
            second.1;
        adds = inl (sym same, refl);
      },
      sym (append-nil rules),
    )
