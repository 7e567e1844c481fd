use Rattle.std.proofs.Common.{ap, sym}
use Rattle.mb_text.specs.Faults.{in_line}
use Rattle.mb_text.proofs.EachSteps.{all_read, item_read, item_wrong}
use Rattle.mb_text.proofs.plain_lines.read_numbers.Goals as goal

pub returns-in-None : goal.returns-in-None
returns-in-None g c =
    ap (in_line c.args.number)
    (item_wrong g.N.PlainNumber.of_item c.args.line.now c.loop-item.rest.now c.in-Some.item.now
    c.loop-item.numbers.items _ c.loop-item.invariant c.in-Some.ensures.cut
    (sym c.in-None.ensures))

pub loop-item-preserved : goal.loop-item-preserved
loop-item-preserved g c =
    rw c.in_ok-push-in-Some-read.ensures.items
    (item_read g.N.PlainNumber.of_item c.args.line.now c.loop-item.rest.now c.in-Some.item.now
    c.loop-item.numbers.items _ c.loop-item.invariant c.in-Some.ensures.cut
    c.in-Some-read.n (sym c.in-Some-read.ensures))

pub returns-in-None-read : goal.returns-in-None-read
returns-in-None-read g c =
    ap (in_line c.args.number)
    (item_wrong g.N.PlainNumber.of_item c.args.line.now c.loop-item.rest.now c.loop-item.rest.now
    c.loop-item.numbers.items _ c.loop-item.invariant c.in_default.ensures.cut
    (sym c.in-None-read.ensures))

pub returns : goal.returns
returns g c =
    rw c.in_ok-push-in-Some-read-2.ensures.items
    (ap (in_line c.args.number)
    (all_read g.N.PlainNumber.of_item c.args.line.now c.loop-item.rest.now _
    (item_read g.N.PlainNumber.of_item c.args.line.now c.loop-item.rest.now c.loop-item.rest.now
    c.loop-item.numbers.items _ c.loop-item.invariant c.in_default.ensures.cut
    c.in-Some-read-2.n (sym c.in-Some-read-2.ensures))))
