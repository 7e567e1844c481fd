use Rattle.mb_certificate.proofs.CertificateLaws.{certificate_is}
use Rattle.mb_certificate.proofs.laws.read_is_written.Goals as goal

pub returns : goal.returns
returns c = record {
  written = λ text c e. (certificate_is text c e).0;
  sound = λ text c e. (certificate_is text c e).1;
}
