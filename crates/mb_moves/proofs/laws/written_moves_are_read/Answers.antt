use Rattle.std.proofs.Common.{arith}
use Rattle.mb_tables.specs.Limits.{most_moves}
use Rattle.mb_moves.proofs.WrittenTexts.{written_given}
use Rattle.mb_moves.proofs.laws.written_moves_are_read.Goals as goal

pub returns : goal.returns
returns c = written_given 0 most_moves (omega arith) c.args.moves.now c.width-sound.ensures.sound
