use Rattle.std.proofs.Common.{List, [], ap, length, subst, sym, ℕ, ◌++◌, ◌<◌, ◌∙◌, ◌∷◌}
use Rattle.mb_rules.proofs.RulesInCode.{push_kept}
use Rattle.mb_rules.proofs.rules.Rules.push.Goals as goal
use Rattle.mb_rules.specs.RuleList.{IsRuleOf, RuleList}
use Rattle.mb_rules.specs.Sides.{IsRuleList, RuleSuits, sides}

pub invariant_of-self-2 : goal.invariant_of-self-2
invariant_of-self-2 c =
    let inside = c.self.inside in
    let view = sym c.self.view_is in
    let set = c.symbols-set.result in
    let sets =
    c.push_reserved.ensures.items
    ∙ ap (λ (l : List ℕ). l ++ (set ∷ [])) c.in_ok-reserve.ensures.items in
    subst (IsRuleList inside.matrix inside.order c.push.new.self.items) (sym sets)
    (subst (λ rules. IsRuleList inside.matrix inside.order rules (inside.sets.items ++ (set ∷ [])))
    (sym c.in_ok-push.ensures.items)
    (push_kept inside.matrix inside.order inside.rules.items inside.sets.items c.args.rule set
    c.self.invariant
    (subst (λ (l : RuleList). RuleSuits l.matrix c.args.rule) view c.requires.shape)
    (subst (λ (l : RuleList). IsRuleOf l.order l.matrix (sides c.args.rule)) view
    c.requires.valid)
    (subst (λ (l : RuleList). length l.rules < 1000064) view c.requires.few)
    c.symbols-set.ensures))
