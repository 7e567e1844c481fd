-- The command `check`: whether a certificate has no wrong line.
use Rattle.std.specs.FinMap.{get}
use Rattle.std.specs.Fmt.{decimal}
use Rattle.std.specs.Prelude.{Err, List, None, Ok, Option, Some, [], codes, length, ℕ, ◌++◌, ◌∷◌}
use Rattle.mb_certificate.specs.Certificate.{Certificate}
use Rattle.mb_certificate.specs.CertificateText.{certificate_of}
use Rattle.mb_certificate.specs.FirstFault.{first_fault}
use Rattle.mb_certificate.specs.declared.line_fault.Fault.{Fault}
use Rattle.mb_desk.specs.Decision.{Decided, or_refusal}
use Rattle.mb_desk.specs.Inputs.{body_of}
use Rattle.mb_desk.specs.Plans.{answers}
use Rattle.mb_desk.specs.declared.plans.Plan.{Plan}
use Rattle.mb_desk.specs.declared.refusals.Refusal.TheVariants as refusals
use Rattle.mb_outside.specs.Files.{Held}
use Rattle.mb_tables.specs.Answers.{◌>>=◌}

-- the certificate that the text of the file of this number is, or the refusal of its first wrong
-- line
abbrev pub certified : ℕ → List ℕ → Decided Certificate
certified file text = or_refusal (refusals.Text file) (certificate_of text)

-- a certificate whose first wrong line is this, if any
abbrev pub judged_by : Certificate → Option Fault → Decided Certificate
judged_by c None = Ok c
judged_by c (Some fault) = Err (refusals.Certificate fault.line fault.reason)

-- no line of a certificate is to be wrong
abbrev pub judged : Certificate → Decided Certificate
judged c = judged_by c (first_fault c)

-- the certificate in the file of a name: the file is read, then its text
abbrev pub found : List ℕ → Held → Decided Certificate
found name held = body_of 1 (get held name) >>= certified 1

-- the same, where each line is then judged
abbrev pub checked : List ℕ → Held → Decided Certificate
checked name held = found name held >>= judged

-- the printed line: how many rules, moves and joins there are
abbrev pub joins_line : Certificate → List ℕ
joins_line c =
    codes "joins rules " ++ (decimal (length c.rules)
    ++ (codes " moves " ++ (decimal (length c.moves)
    ++ (codes " pairs " ++ (decimal (length c.joins) ++ 10 ∷ [])))))

-- the plan of the command: the line is printed
abbrev pub check_plan : List ℕ → Held → Decided Plan
check_plan name held = checked name held >>= λ c. Ok (answers (joins_line c))
