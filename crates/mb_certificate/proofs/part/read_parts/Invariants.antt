use Rattle.std.proofs.Common.{◌-◌, ◌≡◌}
use Rattle.mb_certificate.proofs.Repeats.{with_front}
use Rattle.mb_certificate.specs.Reading.{says, times}
use Rattle.mb_certificate.proofs.part.read_parts.Given as goal

abbrev pub invariant-loop : goal.invariant-loop
invariant-loop g l =
    with_front l.parts.items (times (says g.P.Part.of_items) (l.count - l.counter) l.lines)
    ≡ times (says g.P.Part.of_items) l.count l.fn.lines
