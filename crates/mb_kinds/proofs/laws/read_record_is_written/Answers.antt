use Rattle.mb_kinds.proofs.ReadTexts.{record_read}
use Rattle.mb_kinds.proofs.laws.read_record_is_written.Goals as goal

pub returns : goal.returns
returns c = record {
  written = λ text entry e. (record_read text entry e).0;
  sound = λ text entry e. (record_read text entry e).1;
}
