-- Lines that are judged one after the other.
use Rattle.std.specs.Prelude.{List, None, Option, Some, slice_get, ℕ, ◌<◌, ◌≡◌}
use Rattle.mb_certificate.specs.declared.line_fault.Reason.{Reason}

-- of these lines none before that of this number, from 0, is wrong
abbrev pub AreRightBefore : List (Option Reason) → ℕ → Type 0
AreRightBefore lines k = (i : ℕ) → i < k → slice_get lines i ≡ Some None
