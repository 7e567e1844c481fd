use Rattle.mb_certificate.proofs.CertificateLaws.{certificate_written}
use Rattle.mb_certificate.proofs.laws.written_is_read.Goals as goal

pub returns : goal.returns
returns c = certificate_written
