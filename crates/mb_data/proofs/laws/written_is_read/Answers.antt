use Rattle.mb_data.proofs.WrittenRead.{written_read}
use Rattle.mb_data.proofs.laws.written_is_read.Goals as goal

pub returns : goal.returns
returns c = written_read
