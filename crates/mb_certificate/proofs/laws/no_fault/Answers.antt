use Rattle.mb_certificate.proofs.NoFaults.{none-valid, valid-none}
use Rattle.mb_certificate.proofs.laws.no_fault.Goals as goal

pub returns : goal.returns
returns c = λ parts are. (valid-none parts are, none-valid parts are)
