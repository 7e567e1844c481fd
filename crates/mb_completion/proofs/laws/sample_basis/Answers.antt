use Rattle.mb_completion.proofs.SampleBasis.{reduced_sample}
use Rattle.mb_completion.proofs.SampleLook.{sample_run}
use Rattle.mb_completion.proofs.laws.sample_basis.Goals as goal

pub returns : goal.returns
returns c = reduced_sample sample_run
