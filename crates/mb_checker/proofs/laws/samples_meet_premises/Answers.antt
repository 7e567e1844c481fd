use Rattle.mb_checker.proofs.SmallCertificates.{samples_meet}
use Rattle.mb_checker.proofs.laws.samples_meet_premises.Goals as goal

pub returns : goal.returns
returns c = samples_meet
