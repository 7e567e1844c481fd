use Rattle.mb_completion.proofs.SampleLook.{sample_run}
use Rattle.mb_completion.proofs.laws.sample_run.Goals as goal

pub returns : goal.returns
returns c = sample_run
