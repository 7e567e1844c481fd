use Rattle.mb_checker.proofs.ValidCertificates.{valid-markov}
use Rattle.mb_checker.proofs.laws.valid_is_markov.Goals as goal

pub returns : goal.returns
returns c = λ certificate parts valid. valid-markov certificate valid parts
