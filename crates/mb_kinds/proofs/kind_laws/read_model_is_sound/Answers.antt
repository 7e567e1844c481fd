use Rattle.mb_kinds.proofs.ReadModels.{model_reads}
use Rattle.mb_kinds.proofs.kind_laws.read_model_is_sound.Goals as goal

pub returns : goal.returns
returns c = model_reads
