-- Why a text of lines is refused.
use Rattle.std.specs.Prelude.{Err, None, Ok, Option, Result, Some, ℕ}
use Rattle.mb_text.specs.declared.fault.LineFault.{LineFault}
use Rattle.mb_text.specs.declared.fault.LineFault.TheVariants.{OutOfMemory, Wrong}

-- the number of the first wrong line; want of memory has none
abbrev pub wrong_line : LineFault → Option ℕ
wrong_line (Wrong line) = Some line
wrong_line OutOfMemory = None

-- what the line of this number says; it is wrong where it says nothing
abbrev pub in_line : {A : Type 0} → ℕ → Option A → Result A ℕ
in_line number (Some x) = Ok x
in_line number None = Err number

-- what is refused in the line of this number
abbrev pub or_line : {A F : Type 0} → ℕ → Result A F → Result A ℕ
or_line number (Ok x) = Ok x
or_line number (Err fault) = Err number
