use Rattle.std.proofs.Common.{All}
use Rattle.std.specs.List.{filter, range_with_len}
use Rattle.mb_certificate.specs.Certificate.{IsPath}
use Rattle.mb_certificate.specs.Valid.{is_free}
use Rattle.mb_paths.specs.Beside.{AreLeastPaths}
use Rattle.mb_paths.proofs.given_paths.paths_of.Given as goal

abbrev pub invariant-loop-rule : goal.invariant-loop-rule
invariant-loop-rule l = record {
  so_far : AreLeastPaths l.limit l.certificate l.moves.rows
      (filter (is_free l.certificate.matrix.rows l.certificate.rules) (range_with_len 0 l.rule))
      l.paths.items;
  sound : All IsPath l.paths.items;
}
