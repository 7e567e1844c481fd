use Rattle.mb_checker.proofs.ValidCertificates.{premises-hold}
use Rattle.mb_checker.proofs.laws.valid_meets_premises.Goals as goal

pub returns : goal.returns
returns c = λ certificate parts valid. premises-hold certificate valid parts
