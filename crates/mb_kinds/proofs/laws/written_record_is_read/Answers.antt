use Rattle.mb_kinds.proofs.WrittenTexts.{record_said}
use Rattle.mb_kinds.proofs.laws.written_record_is_read.Goals as goal

pub returns : goal.returns
returns c = record_said
