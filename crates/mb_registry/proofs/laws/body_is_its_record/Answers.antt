use Rattle.mb_registry.proofs.RecordTexts.{record_back, record_sound, record_written}
use Rattle.mb_registry.proofs.laws.body_is_its_record.Goals as goal

pub returns : goal.returns
returns c = record {
  read = record_written;
  of_kind = λ kind body entry e. (record_back kind body entry e).kind_is;
  written = λ kind body entry e. (record_back kind body entry e).written;
  sound = record_sound;
}
