-- What a verdict says of a certificate.
use Rattle.std.specs.Prelude.{None, Option, Some}
use Rattle.mb_certificate.specs.declared.line_fault.Fault.{Fault}
use Rattle.mb_checker.specs.declared.verdict.Verdict.TheVariants.{Joins, Refused}
use Rattle.mb_checker.specs.declared.verdict.Verdict.{Verdict}

-- the first wrong line of which a verdict tells
abbrev pub told_fault : Verdict → Option Fault
told_fault Joins = None
told_fault (Refused line reason) = Some (record { line = line; reason = reason })
