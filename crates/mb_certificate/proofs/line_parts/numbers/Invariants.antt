use Rattle.std.proofs.Common.{length, ◌-◌, ◌≡◌}
use Rattle.mb_certificate.proofs.Repeats.{with_front}
use Rattle.mb_certificate.specs.Reading.{one, times}
use Rattle.mb_certificate.proofs.line_parts.numbers.Given as goal

abbrev pub invariant-loop : goal.invariant-loop
invariant-loop g l = record {
  read : with_front l.numbers.items
      (times (one g.N.ItemNumber.of_item) (l.count - l.counter) l.items)
      ≡ times (one g.N.ItemNumber.of_item) l.count l.fn.items;
  many : length l.numbers.items ≡ l.counter;
}
