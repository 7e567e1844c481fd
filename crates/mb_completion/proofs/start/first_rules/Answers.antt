use Rattle.std.proofs.Common.{[], ap, arith, length, length-append, subst, sym, ◌∙◌, ◌∷◌}
use Rattle.std.proofs.lemmas.Grind.{common_steps}
use Rattle.mb_completion.proofs.FirstRules.{first-all, first-more, first_rule_valid}
use Rattle.mb_completion.proofs.start.first_rules.Goals as goal
use Rattle.mb_completion.specs.Start.{births}
use Rattle.mb_matrix.specs.Matrix.{Design}
use Rattle.mb_order.specs.Rewriting.{IsValid}
use Rattle.mb_order.specs.Weight.{symbols_of}
use Rattle.mb_order.specs.declared.order.Order.{Order}
use Rattle.mb_rules.specs.RuleList.{RuleList, cmp_of}
use Rattle.mb_rules.specs.Sides.{sides}

pub push-requires-clause-valid : goal.push-requires-clause-valid
push-requires-clause-valid c =
    let matrix = c.args.matrix.now in
    let rule = sides c.in_ok-birth.field-0 in
    let v = first_rule_valid matrix c.args.order c.loop-cell.cell rule c.cols-cell-end.ensures.sound
    (grind (arith, common_steps)) c.in_ok-birth.ensures.sides in
    subst (λ (m : Design). IsValid m.rows (symbols_of m) (cmp_of c.loop-cell.rules.order m) rule)
    (sym c.loop-cell.invariant.matrix)
    (subst (λ (o : Order). IsValid matrix.rows (symbols_of matrix) (cmp_of o matrix) rule)
    (sym c.loop-cell.invariant.order) v)

pub loop-cell-preserved : goal.loop-cell-preserved
loop-cell-preserved c =
    let matrix = c.args.matrix.now in
    let rules = ap (λ (l : RuleList). l.rules) c.in_ok-push.ensures.added in
    let long = c.loop-cell.invariant.long in
    record {
      so_far =
          first-more matrix.rows
          (length matrix.columns) c.loop-cell.cell matrix.columns c.loop-cell.rules.rules
          c.push.new.self.rules
          (births matrix.rows matrix.columns) (sides c.in_ok-birth.field-0)
          (grind (arith, common_steps)) rules c.in_ok-birth.ensures.sides
          c.loop-cell.invariant.so_far;
      long = ap length rules
          ∙ length-append c.loop-cell.rules.rules (sides c.in_ok-birth.field-0 ∷ []) ∙ omega arith;
      matrix = ap (λ (l : RuleList). l.matrix) c.in_ok-push.ensures.added
          ∙ c.loop-cell.invariant.matrix;
      order = ap (λ (l : RuleList). l.order) c.in_ok-push.ensures.added
          ∙ c.loop-cell.invariant.order;
    }

pub returns-clause-rules : goal.returns-clause-rules
returns-clause-rules c =
    let matrix = c.args.matrix.now in
    first-all matrix.rows
    (length matrix.columns) c.loop-cell.cell matrix.columns c.loop-cell.rules.rules
    (births matrix.rows matrix.columns)
    (grind (arith, common_steps)) c.loop-cell.invariant.so_far
