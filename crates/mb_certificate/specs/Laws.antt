-- The laws of certificates: of their text, and of their first wrong line.
use Rattle.std.specs.Prelude.{List, None, Ok, ℕ, ◌↔◌, ◌≡◌}
use Rattle.mb_certificate.specs.Certificate.{AreParts, Certificate}
use Rattle.mb_certificate.specs.CertificateText.{certificate_of}
use Rattle.mb_certificate.specs.FirstFault.{first_fault}
use Rattle.mb_certificate.specs.Valid.{IsValid}
use Rattle.mb_certificate.specs.Written.{text_of}

-- what is written of a certificate is read as it
abbrev pub WrittenIsRead : Type 0
WrittenIsRead = (c : Certificate) → AreParts c → certificate_of (text_of c) ≡ Ok c

-- a text that is read as a certificate is what is written of it, and its parts have their shapes
-- and ranges
pub record ReadIsWritten : Type 0 where
  pub written : (text : List ℕ) (c : Certificate) → certificate_of text ≡ Ok c →
      text ≡ text_of c
  pub sound : (text : List ℕ) (c : Certificate) → certificate_of text ≡ Ok c → AreParts c

-- no line is wrong exactly where the certificate is valid
abbrev pub NoFault : Type 0
NoFault = (c : Certificate) → AreParts c → (first_fault c ≡ None) ↔ IsValid c
