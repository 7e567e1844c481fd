use Rattle.mb_completion.proofs.SamplePremises.{sample_meets}
use Rattle.mb_completion.proofs.laws.sample_meets_premises.Goals as goal

pub returns : goal.returns
returns c = sample_meets
