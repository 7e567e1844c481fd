use Rattle.std.proofs.Common.{List, ℕ, ◌++◌, ◌≡◌}
use Rattle.mb_order.specs.Monomial.{Monomial}
use Rattle.mb_order.specs.Weight.{Suits, symbols_of, weights}
use Rattle.mb_rules.proofs.Confluence.{rank}
use Rattle.mb_rules.proofs.rules.Rules.normal.Given as goal
use Rattle.mb_rules.specs.NormalForm.{NormalBy}
use Rattle.mb_rules.specs.RuleList.{cmp_of}

abbrev pub invariant-loop-form : goal.invariant-loop-form
invariant-loop-form l = record {
  so_far : (trace : List ℕ) (p : Monomial) → NormalBy l.self.rules trace l.form.list p →
      NormalBy l.self.rules (l.steps.items ++ trace) l.m.list p;
  shape : Suits l.self.matrix l.form;
  weight : weights l.self.matrix l.form.list ≡ weights l.self.matrix l.m.list;
}

abbrev pub decreases-loop-form : goal.decreases-loop-form
decreases-loop-form l =
    rank l.self.matrix.rows (symbols_of l.self.matrix)
    (cmp_of l.self.order l.self.matrix) l.form.list
