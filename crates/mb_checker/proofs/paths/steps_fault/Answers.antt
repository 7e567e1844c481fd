use Rattle.mb_checker.proofs.PathLines.{left-small}
use Rattle.mb_checker.proofs.paths.steps_fault.Goals as goal

pub walk-requires-clause-small : goal.walk-requires-clause-small
walk-requires-clause-small c =
    left-small c.args.certificate.now c.rule-rule.ensures.sound c.path.inside.rule
    c.rule-rule.result.now c.rule-rule.ensures.rule c.rule-rule.ensures.shape c.in_ok-table.table
    c.in_ok-table.ensures
