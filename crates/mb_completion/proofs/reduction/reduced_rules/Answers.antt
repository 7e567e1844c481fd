use Rattle.std.proofs.Common.{arith, length, map, subst, sym}
use Rattle.mb_completion.proofs.KeepingSteps.{reduction_of, same_ok}
use Rattle.mb_completion.proofs.PeaksOfRun.{kept_peaks}
use Rattle.mb_completion.proofs.RunToReduced.{kept_reduced, kept_valid}
use Rattle.mb_completion.proofs.reduction.reduced_rules.Goals as goal
use Rattle.mb_completion.specs.Basis.{IsReducedBasis}
use Rattle.mb_completion.specs.Run.{AreLightPeaks}
use Rattle.mb_matrix.specs.Matrix.{Design}
use Rattle.mb_order.specs.declared.order.Order.{Order}
use Rattle.mb_rules.specs.RuleList.{ValidRules}
use Rattle.mb_rules.specs.Sides.{RuleSuits, sides}
use Rattle.mb_tables.proofs.ListLaws.{place-in}

pub of_rules-requires-clause-shape : goal.of_rules-requires-clause-shape
of_rules-requires-clause-shape c k rule e =
    let keeping = c.in_ok-kept.ensures in
    subst (λ (m : Design). RuleSuits m rule) (sym c.matrix.ensures)
    (keeping.shapes rule (place-in c.in_ok-kept.kept.items k rule e))

pub of_rules-requires-clause-valid : goal.of_rules-requires-clause-valid
of_rules-requires-clause-valid c =
    let list = c.args.rules.now in
    let are = c.len-rules.ensures.sound in
    let kept = map sides c.in_ok-kept.kept.items in
    let r = kept_reduced list.matrix list.order are.design list.rules kept are.valid
    c.requires.reach
    (reduction_of list are (length list.rules) c.in_ok-kept.kept.items
    (omega arith) c.in_ok-kept.ensures) in
    subst (λ (m : Design). ValidRules c.order.result m kept) (sym c.matrix.ensures)
    (subst (λ (o : Order). ValidRules o list.matrix kept) (sym c.order.ensures)
    (kept_valid list.matrix list.order are.design kept r))

pub returns-clause-basis : goal.returns-clause-basis
returns-clause-basis c =
    let list = c.args.rules.now in
    let are = c.len-rules.ensures.sound in
    let kept = map sides c.in_ok-kept.kept.items in
    let keeping = c.in_ok-kept.ensures in
    same_ok (IsReducedBasis list.matrix list.order) c.of_rules.result kept
    (record {
      reduced = kept_reduced list.matrix list.order are.design list.rules kept are.valid
          c.requires.reach
          (reduction_of list are (length list.rules) c.in_ok-kept.kept.items (omega arith) keeping);
      ascending = keeping.ascends;
    })
    c.of_rules.ensures.rules

pub returns-clause-peaks : goal.returns-clause-peaks
returns-clause-peaks c =
    let list = c.args.rules.now in
    let are = c.len-rules.ensures.sound in
    let kept = map sides c.in_ok-kept.kept.items in
    let reduction = reduction_of list are (length list.rules) c.in_ok-kept.kept.items (omega arith)
    c.in_ok-kept.ensures in
    same_ok (AreLightPeaks list.matrix) c.of_rules.result kept
    (kept_peaks list.matrix list.rules kept c.requires.peaks
    (λ i j low high l f g e.
    let place = (reduction.minimal i low f).0 in
    c.requires.light place.0 (low.0, place.1) place.2) reduction)
    c.of_rules.ensures.rules
