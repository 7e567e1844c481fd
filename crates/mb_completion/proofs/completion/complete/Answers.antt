use Rattle.std.proofs.Common.{arith, subst, sym}
use Rattle.mb_completion.proofs.PeaksOfRun.{run_light}
use Rattle.mb_completion.proofs.RunToReduced.{run_reaches}
use Rattle.mb_completion.proofs.completion.complete.Goals as goal
use Rattle.mb_completion.specs.Run.{AreLightPeaks}
use Rattle.mb_completion.specs.Start.{births}
use Rattle.mb_matrix.specs.Matrix.{Design}
use Rattle.mb_order.specs.Weight.{symbols_of}
use Rattle.mb_order.specs.declared.order.Order.{Order}
use Rattle.mb_rules.specs.Classes.{ReachLeast}
use Rattle.mb_rules.specs.RuleList.{cmp_of}

pub reduced_rules-requires-clause-reach : goal.reduced_rules-requires-clause-reach
reduced_rules-requires-clause-reach c =
    let matrix = c.args.matrix.now in
    let rules = c.in_ok-born.born.rules in
    subst (λ (m : Design).
    ReachLeast m.rows (symbols_of m) (cmp_of c.in_ok-born.born.order m) rules)
    (sym c.in_ok-born.ensures.matrix)
    (subst (λ (o : Order). ReachLeast matrix.rows (symbols_of matrix) (cmp_of o matrix) rules)
    (sym c.in_ok-born.ensures.order)
    (run_reaches matrix c.args.order c.rows-rows.ensures.sound c.args.pairs rules c.in_ok-born.looks
    c.in_ok-born.ensures.finished))

pub reduced_rules-requires-clause-peaks : goal.reduced_rules-requires-clause-peaks
reduced_rules-requires-clause-peaks c =
    let matrix = c.args.matrix.now in
    let rules = c.in_ok-born.born.rules in
    subst (λ (m : Design). AreLightPeaks m rules) (sym c.in_ok-born.ensures.matrix)
    (run_light matrix c.args.order c.args.pairs
    (births matrix.rows matrix.columns) 0 rules c.in_ok-born.looks
    (λ k p l e. absurd (omega arith)) c.in_ok-born.ensures.finished)
