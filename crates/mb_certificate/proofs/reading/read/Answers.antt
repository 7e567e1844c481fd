use Rattle.std.proofs.Common.{map}
use Rattle.mb_certificate.proofs.CertificateLaws.{parts_read}
use Rattle.mb_certificate.specs.Sides.{sides}
use Rattle.mb_certificate.proofs.reading.read.Goals as goal

pub new-requires : goal.new-requires
new-requires c = record {
  parts =
      parts_read c.of-lines.result c.read_head.new.lines c.read_basis.new.lines
      c.read_proof.new.lines (c.in_ok-matrix.matrix, c.in_ok-matrix.order)
      (c.in_ok-moves.moves.rows, map sides c.in_ok-moves.rules.items)
      (c.in_ok-starts.starts.items, c.in_ok-starts.joins.items, c.in_ok-starts.paths.items)
      c.cols.result c.in_ok-matrix.ensures c.in_ok-moves.ensures.basis c.cols.ensures.cells
      c.in_ok-starts.ensures;
  width = c.in_ok-moves.ensures.width;
  shape = c.in_ok-moves.ensures.shape;
}
