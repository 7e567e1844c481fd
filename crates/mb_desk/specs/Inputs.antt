-- What a command reads of a named file, or the refusal of the file.
use Rattle.std.specs.Prelude.{Err, List, None, Ok, Option, Result, Some, if◌then◌else◌, length, nat_lt, ℕ}
use Rattle.mb_desk.specs.Decision.{Decided, or_refusal}
use Rattle.mb_desk.specs.declared.plans.Stop.{Stop}
use Rattle.mb_desk.specs.declared.plans.Stop.TheVariants.{Memory, Refused}
use Rattle.mb_desk.specs.declared.refusals.Refusal.{Refusal}
use Rattle.mb_desk.specs.declared.refusals.Refusal.TheVariants as refusals
use Rattle.mb_moves.specs.declared.fault.GridFault.{GridFault}
use Rattle.mb_moves.specs.declared.fault.GridFault.TheVariants as faults
use Rattle.mb_outside.specs.Files.{longest_file}

-- the body of the file of this number, which has to be there and not to be too long
abbrev pub body_of : ℕ → Option (List ℕ) → Decided (List ℕ)
body_of file None = Err (refusals.NoFile file)
body_of file (Some body) =
    if nat_lt longest_file (length body) then Err (refusals.TooLong file) else Ok body

-- the refusal of a file for the fault of its text; no text has the last of these faults
abbrev pub text_refusal : ℕ → GridFault → Refusal
text_refusal file faults.NoSize = refusals.NoSize file
text_refusal file (faults.BadNumber token) = refusals.BadNumber file token
text_refusal file (faults.TooWideNumber token) = refusals.TooWideNumber file token
text_refusal file (faults.TooFew found wanted) = refusals.TooFew file found wanted
text_refusal file (faults.TooMany wanted) = refusals.TooMany file wanted
text_refusal file faults.OutOfMemory = refusals.NoSize file

-- why the work stops for the fault that a reader answers
abbrev pub text_stop : ℕ → GridFault → Stop
text_stop file faults.OutOfMemory = Memory
text_stop file fault = Refused (text_refusal file fault)

-- the value that the text of the file of this number says, or the refusal of the file
abbrev pub accepted : {A : Type 0} → ℕ → Result A GridFault → Decided A
accepted file says = or_refusal (text_refusal file) says
