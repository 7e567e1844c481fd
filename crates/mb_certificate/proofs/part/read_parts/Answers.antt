use Rattle.mb_tables.proofs.HandedOn.{gives-handed_on}
use Rattle.mb_certificate.proofs.Repeats.{all_read, one_more, one_wrong}
use Rattle.mb_certificate.specs.CertificateText.{read_cause}
use Rattle.mb_certificate.specs.Reading.{says, times}
use Rattle.mb_certificate.proofs.part.read_parts.Goals as goal

pub returns-in_err-read_part : goal.returns-in_err-read_part
returns-in_err-read_part g c =
    gives-handed_on read_cause _ _ c.in_err-read_part.field-0.0 _ c.from_residual.ensures.1
    (one_wrong (says g.P.Part.of_items) c.loop.parts.items c.args.count c.loop.counter
    c.loop.lines (times (says g.P.Part.of_items) c.args.count c.args.lines.now)
    c.loop.invariant (read_cause c.in_err-read_part.field-0.0) c.loop-test.true
    c.in_err-read_part.ensures)

pub loop-preserved : goal.loop-preserved
loop-preserved g c =
    one_more (says g.P.Part.of_items) c.loop.parts.items c.args.count c.loop.counter
    c.loop.lines (times (says g.P.Part.of_items) c.args.count c.args.lines.now)
    c.loop.invariant c.push.new.self.items c.in_ok-read_part.field-0 c.read_part.new.lines
    c.loop-test.true c.in_ok-read_part.ensures c.in_ok-push.ensures.items

pub returns : goal.returns
returns g c =
    all_read (says g.P.Part.of_items) c.loop.parts.items c.args.count c.loop.counter
    c.loop.lines (times (says g.P.Part.of_items) c.args.count c.args.lines.now)
    c.loop.invariant c.loop-test.false
