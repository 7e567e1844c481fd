use Rattle.std.proofs.Common.{All, map, ◌-◌, ◌≡◌}
use Rattle.mb_certificate.proofs.Repeats.{with_front}
use Rattle.mb_certificate.specs.CertificateText.{rule_in, symbol_count}
use Rattle.mb_certificate.specs.Reading.{says, times}
use Rattle.mb_certificate.specs.Sides.{PairSuits, sides}
use Rattle.mb_certificate.proofs.basis_lines.read_rules.Given as goal

abbrev pub invariant-loop : goal.invariant-loop
invariant-loop l = record {
  read : with_front (map sides l.rules.items)
      (times (says (rule_in (symbol_count l.matrix))) (l.count - l.counter) l.lines)
      ≡ times (says (rule_in (symbol_count l.matrix))) l.count l.fn.lines;
  shape : All (PairSuits l.matrix) l.rules.items;
}
