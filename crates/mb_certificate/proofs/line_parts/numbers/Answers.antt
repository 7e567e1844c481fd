use Rattle.mb_tables.proofs.HandedOn.{gives-handed_on}
use Rattle.mb_certificate.proofs.Repeats.{all_read, one_longer, one_more, one_wrong}
use Rattle.mb_certificate.specs.CertificateText.{read_cause}
use Rattle.mb_certificate.specs.Reading.{one, times}
use Rattle.mb_certificate.proofs.line_parts.numbers.Goals as goal

pub returns-in_err-one-clause-numbers : goal.returns-in_err-one-clause-numbers
returns-in_err-one-clause-numbers g c =
    gives-handed_on read_cause _ _ c.in_err-one.field-0.0 _ c.from_residual-in_err-one.ensures.1
    (one_wrong (one g.N.ItemNumber.of_item) c.loop.numbers.items c.args.count c.loop.counter
    c.loop.items (times (one g.N.ItemNumber.of_item) c.args.count c.args.items.now)
    c.loop.invariant.read (read_cause c.in_err-one.field-0.0) c.loop-test.true c.in_err-one.ensures)

pub loop-preserved : goal.loop-preserved
loop-preserved g c = record {
  read =
      one_more (one g.N.ItemNumber.of_item) c.loop.numbers.items c.args.count c.loop.counter
      c.loop.items (times (one g.N.ItemNumber.of_item) c.args.count c.args.items.now)
      c.loop.invariant.read c.push.new.self.items c.in_ok-one.field-0 c.one.new.self
      c.loop-test.true c.in_ok-one.ensures c.in_ok-push.ensures.items;
  many =
      one_longer c.push.new.self.items c.loop.numbers.items c.in_ok-one.field-0 c.loop.counter
      c.loop.invariant.many c.in_ok-push.ensures.items;
}

pub returns-clause-numbers : goal.returns-clause-numbers
returns-clause-numbers g c =
    all_read (one g.N.ItemNumber.of_item) c.loop.numbers.items c.args.count c.loop.counter
    c.loop.items (times (one g.N.ItemNumber.of_item) c.args.count c.args.items.now)
    c.loop.invariant.read c.loop-test.false
