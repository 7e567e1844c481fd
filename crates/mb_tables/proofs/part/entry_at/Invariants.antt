use Rattle.std.proofs.Common.{ℕ, ◌<◌, ◌≡◌, get_or}
use Rattle.mb_tables.specs.declared.part.Part.{Part}
use Rattle.mb_tables.proofs.part.entry_at.Given as goal

abbrev pub invariant-loop-part : goal.invariant-loop-part
invariant-loop-part l =
    (q : ℕ) (d : Part) → q < l.part-index → (get_or l.parts q d).cell ≡ l.cell → ⊥
