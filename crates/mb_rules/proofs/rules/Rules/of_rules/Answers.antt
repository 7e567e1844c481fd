use Rattle.std.proofs.Common.{List, subst, sym}
use Rattle.mb_matrix.specs.Matrix.{Design}
use Rattle.mb_rules.proofs.RulesInCode.{list_of}
use Rattle.mb_rules.proofs.rules.Rules.of_rules.Goals as goal
use Rattle.mb_rules.specs.Sides.{AreLeftSets, IsRuleList}
use Rattle.mb_rules.specs.declared.rule.Rule as code

pub invariant_of-result : goal.invariant_of-result
invariant_of-result c =
    subst
    (λ (m : Design). IsRuleList m c.args.order c.args.rules.items c.in_ok-left_sets.field-0.items)
    (sym c.in_ok-try_copy.ensures)
    (list_of c.args.matrix.now c.args.order c.args.rules.items c.in_ok-left_sets.field-0.items
    c.rows-rows.ensures.sound c.requires.shape c.requires.valid c.requires.few
    (subst (λ (rules : List code.Rule). AreLeftSets rules c.in_ok-left_sets.field-0.items)
    c.as_slice.ensures.value c.in_ok-left_sets.ensures))
