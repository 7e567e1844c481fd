use Rattle.std.proofs.Common.{length, ◌-◌, ◌≡◌}
use Rattle.mb_certificate.proofs.Repeats.{with_front}
use Rattle.mb_certificate.specs.CertificateText.{all_of, entry}
use Rattle.mb_certificate.specs.Reading.{says, times}
use Rattle.mb_certificate.proofs.basis_lines.read_moves.Given as goal

abbrev pub invariant-loop : goal.invariant-loop
invariant-loop l = record {
  read : with_front l.moves.rows (times (says (all_of entry l.cells)) (l.count - l.counter) l.lines)
      ≡ times (says (all_of entry l.cells)) l.count l.fn.lines;
  width : l.moves.width ≡ l.cells;
  many : length l.moves.rows ≡ l.counter;
}
