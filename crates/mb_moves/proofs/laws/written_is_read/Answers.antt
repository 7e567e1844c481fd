use Rattle.std.proofs.Common.{arith}
use Rattle.mb_tables.specs.Limits.{most_cells, most_moves}
use Rattle.mb_moves.proofs.WrittenTexts.{written_given}
use Rattle.mb_moves.proofs.laws.written_is_read.Goals as goal

pub returns : goal.returns
returns c = record {
  matrix = written_given 1 most_cells (omega arith);
  moves = written_given 0 most_moves (omega arith);
}
