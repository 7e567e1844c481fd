use Rattle.std.proofs.Common.{Some, length, slice_get, ℕ, ◌<◌, ◌≡◌}
use Rattle.mb_order.specs.Symbols.{IsSetOf}
use Rattle.mb_rules.proofs.rules.left_sets.Given as goal
use Rattle.mb_rules.specs.declared.rule.Rule as code
use Rattle.mb_tables.specs.Vectors.{at}

abbrev pub invariant-loop-rule : goal.invariant-loop-rule
invariant-loop-rule l = record {
  long : length l.sets.items ≡ l.rule-index;
  each : (k : ℕ) (rule : code.Rule) → k < l.rule-index → slice_get l.rules k ≡ Some rule →
      IsSetOf (at l.sets.items k) rule.left.list;
}
