use Rattle.std.proofs.Common.{Bool, ap, arith, get_or, inl, inr, length, refl, subst, sym, ◌<◌, ◌∙◌, ◌≡◌, ◌⊎◌}
use Rattle.std.proofs.lemmas.Grind.{common_steps}
use Rattle.std.proofs.lemmas.List.Sums.{position_or_len_is}
use Rattle.std.proofs.lemmas.List.{length-map}
use Rattle.std.proofs.lemmas.Option.{slice_get_read}
use Rattle.mb_order.specs.Rewriting.{Rule}
use Rattle.mb_order.specs.Weight.{Suits}
use Rattle.mb_rules.proofs.RulesInCode.{fit_here, no_rule, rule_of_set}
use Rattle.mb_rules.proofs.rules.Rules.first.Goals as goal
use Rattle.mb_rules.specs.RuleList.{RuleList}
use Rattle.mb_rules.specs.Sides.{sides}
use Rattle.mb_tables.specs.Vectors.{within}

pub fits-requires-clause-shape : goal.fits-requires-clause-shape
fits-requires-clause-shape c =
    let items = c.self.inside.rules.items in
    let s = c.self.invariant.suited c.loop-k.k c.index.result.now
    (slice_get_read items (length items) c.loop-k.k c.index.result.now refl
    (rule_of_set _ _ _ _ c.self.invariant.marked c.deref-set-items.ensures.value
    c.loop-k-test.true) c.index.ensures) in
    let l = s.left in
    let matrix : c.self.inside.matrix ≡ c.args.self.now.matrix =
    ap (λ (x : RuleList). x.matrix) c.self.view_is in
    let r : Suits c.self.inside.matrix c.args.m.now =
    subst (λ x. Suits x c.args.m.now) (sym matrix) c.requires in
    record { margins = l.margins ∙ sym r.margins; symbols = l.symbols ∙ sym r.symbols }

pub returns-then-fits-clause-first : goal.returns-then-fits-clause-first
returns-then-fits-clause-first c =
    let list = c.args.self.now.rules in
    let fit : Rule → Bool = λ rule. within rule.0 c.args.m.now.list in
    let place = rule_of_set _ _ _ _ c.self.invariant.marked c.deref-set-items.ensures.value
    c.loop-k-test.true in
    let whole : length list ≡ length c.self.inside.rules.items =
    sym (ap (λ (x : RuleList). length x.rules) c.self.view_is)
    ∙ length-map c.self.inside.rules.items sides in
    position_or_len_is fit list c.loop-k.k no_rule (omega arith) c.loop-k.invariant
    (λ h.
    fit_here _ list c.loop-k.k c.index.result.now c.args.m.now.list
    (ap (λ (x : RuleList). x.rules) c.self.view_is) place c.index.ensures
    ∙ sym c.fits.ensures ∙ c.if-fits.true)

pub loop-k-preserved : goal.loop-k-preserved
loop-k-preserved c i h =
    let list = c.args.self.now.rules in
    let m = c.args.m.now.list in
    let cases : (i < c.loop-k.k) ⊎ (i ≡ c.loop-k.k) = grind arith in
    elim cases [
      | inl l ↦ c.loop-k.invariant i l
      | inr e ↦
          ap (λ j. within (get_or list j no_rule).0 m) e
          ∙ fit_here _ list c.loop-k.k c.index.result.now m
          (ap (λ (x : RuleList). x.rules) c.self.view_is)
          (rule_of_set _ _ _ _ c.self.invariant.marked c.deref-set-items.ensures.value
          c.loop-k-test.true) c.index.ensures
          ∙ sym c.fits.ensures ∙ c.if-fits.false
    ]

pub returns-clause-first : goal.returns-clause-first
returns-clause-first c =
    let items = c.self.inside.rules.items in
    let list = c.args.self.now.rules in
    let fit : Rule → Bool = λ rule. within rule.0 c.args.m.now.list in
    let many = c.self.invariant.marked in
    let as_many = many.as_many in
    let value = ap length c.deref-set-items.ensures.value in
    let end = c.loop-k-test.false in
    let whole : length list ≡ length items =
    sym (ap (λ (x : RuleList). length x.rules) c.self.view_is) ∙ length-map items sides in
    let len : c.len.result ≡ length items = grind (arith, common_steps) in
    position_or_len_is fit list c.len.result no_rule (omega arith)
    (λ i h. c.loop-k.invariant i (omega arith)) (λ h. absurd (omega arith))
