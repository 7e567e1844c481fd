use Rattle.std.proofs.Common.{map}
use Rattle.mb_tables.proofs.HandedOn.{gives-handed_on}
use Rattle.mb_certificate.proofs.MoreRows.{shapes_on, sides_on}
use Rattle.mb_certificate.proofs.Repeats.{all_read, one_more, one_wrong}
use Rattle.mb_certificate.specs.CertificateText.{read_cause, rule_in, symbol_count}
use Rattle.mb_certificate.specs.Reading.{says, times}
use Rattle.mb_certificate.specs.Sides.{sides}
use Rattle.mb_certificate.proofs.basis_lines.read_rules.Goals as goal

pub returns-in_err-read_rule-clause-rules : goal.returns-in_err-read_rule-clause-rules
returns-in_err-read_rule-clause-rules c =
    let step = says (rule_in (symbol_count c.args.matrix.now)) in
    gives-handed_on read_cause _ _ c.in_err-read_rule.field-0.0 _ c.from_residual.ensures.1
    (one_wrong step (map sides c.loop.rules.items) c.args.count c.loop.counter
    c.loop.lines (times step c.args.count c.args.lines.now)
    c.loop.invariant.read (read_cause c.in_err-read_rule.field-0.0) c.loop-test.true
    c.in_err-read_rule.ensures.rule)

pub loop-preserved : goal.loop-preserved
loop-preserved c = record {
  read =
      let step = says (rule_in (symbol_count c.args.matrix.now)) in
      one_more step (map sides c.loop.rules.items) c.args.count c.loop.counter
      c.loop.lines (times step c.args.count c.args.lines.now)
      c.loop.invariant.read (map sides c.push.new.self.items) (sides c.in_ok-read_rule.field-0)
      c.read_rule.new.lines c.loop-test.true c.in_ok-read_rule.ensures.rule
      (sides_on c.push.new.self.items c.loop.rules.items c.in_ok-read_rule.field-0
      c.in_ok-push.ensures.items);
  shape =
      shapes_on c.args.matrix.now c.push.new.self.items c.loop.rules.items
      c.in_ok-read_rule.field-0 c.loop.invariant.shape c.in_ok-read_rule.ensures.shape
      c.in_ok-push.ensures.items;
}

pub returns-clause-rules : goal.returns-clause-rules
returns-clause-rules c =
    let step = says (rule_in (symbol_count c.args.matrix.now)) in
    all_read step (map sides c.loop.rules.items) c.args.count c.loop.counter c.loop.lines
    (times step c.args.count c.args.lines.now) c.loop.invariant.read c.loop-test.false
