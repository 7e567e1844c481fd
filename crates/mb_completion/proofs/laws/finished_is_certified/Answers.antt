use Rattle.mb_completion.proofs.FinishedCertificates.{certified}
use Rattle.mb_completion.proofs.laws.finished_is_certified.Goals as goal

pub returns : goal.returns
returns c = certified
