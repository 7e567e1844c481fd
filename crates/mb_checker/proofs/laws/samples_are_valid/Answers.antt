use Rattle.mb_checker.proofs.SmallCertificates.{samples_valid}
use Rattle.mb_checker.proofs.laws.samples_are_valid.Goals as goal

pub returns : goal.returns
returns c = samples_valid
