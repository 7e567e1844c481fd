use Rattle.std.proofs.Common.{arith}
use Rattle.mb_tables.specs.Limits.{most_cells}
use Rattle.mb_moves.proofs.WrittenTexts.{written_given}
use Rattle.mb_moves.proofs.laws.written_matrix_is_read.Goals as goal

pub returns : goal.returns
returns c = written_given 1 most_cells (omega arith) c.args.grid.now c.width-sound.ensures.sound
