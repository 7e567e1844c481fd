-- What a check of some lines finds.
use Rattle.std.specs.Prelude.{Err, None, Ok, Option, Result, Some, ◌≡◌}
use Rattle.mb_certificate.specs.declared.line_fault.Fault.{Fault}
use Rattle.mb_checker.specs.declared.stop.Stop.TheVariants.{OutOfMemory, Wrong}
use Rattle.mb_checker.specs.declared.stop.Stop.{Stop}

-- the check goes on where no line is wrong, and stops at the first wrong one; want of memory may
-- come in place of any answer
abbrev pub Finds : {X : Type 0} → Result X Stop → Option Fault → Type 0
Finds (Ok x) first = first ≡ None
Finds (Err (Wrong fault)) first = first ≡ Some fault
Finds (Err OutOfMemory) first = Unit {0}
