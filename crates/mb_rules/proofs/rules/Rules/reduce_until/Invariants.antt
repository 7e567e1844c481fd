use Rattle.std.proofs.Common.{List, ℕ, ◌≡◌}
use Rattle.mb_order.specs.Monomial.{Monomial}
use Rattle.mb_order.specs.Weight.{Suits, symbols_of, weights}
use Rattle.mb_rules.proofs.Confluence.{rank}
use Rattle.mb_rules.proofs.rules.Rules.reduce_until.Given as goal
use Rattle.mb_rules.specs.NormalForm.{NormalBy}
use Rattle.mb_rules.specs.RuleList.{cmp_of}

abbrev pub invariant-loop-rules : goal.invariant-loop-rules
invariant-loop-rules l = record {
  so_far : (trace : List ℕ) (p : Monomial) → NormalBy l.self.rules trace l.m.list p →
      (whole : List ℕ) × NormalBy l.self.rules whole l.initial.m.list p;
  shape : Suits l.self.matrix l.m;
  weight : weights l.self.matrix l.m.list ≡ weights l.self.matrix l.initial.m.list;
}

abbrev pub decreases-loop-rules : goal.decreases-loop-rules
decreases-loop-rules l =
    rank l.self.matrix.rows (symbols_of l.self.matrix) (cmp_of l.self.order l.self.matrix) l.m.list
