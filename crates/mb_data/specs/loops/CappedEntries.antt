-- Entries whose count is cut past the greatest total.
use Rattle.std.specs.Prelude.{Err, List, Ok, Result, min, ℕ, ◌≡◌}
use Rattle.mb_data.specs.DatasetText.{Row}
use Rattle.mb_data.specs.Faults.{cause}
use Rattle.mb_data.specs.declared.entry.Entry.{Entry}
use Rattle.mb_data.specs.declared.entry.Entry.TheVariants.{Count, StructuralZero}
use Rattle.mb_data.specs.declared.fault.DataFault.{DataFault}
use Rattle.mb_tables.specs.Answers.{IsRefused}

-- a count above 1,000,000 is 1,000,001
abbrev pub capped_entry : Entry → Entry
capped_entry (Count count) = Count (min count 1000001)
capped_entry StructuralZero = StructuralZero

-- the answer is the entry of the row that a record is, with its count cut; or its fault
abbrev pub HasRow : Result Entry DataFault → Result Row DataFault → List (List ℕ) → Type 0
HasRow (Ok entry) says levels =
    (full : Entry) × (says ≡ Ok (record { levels = levels; entry = full }))
    × (entry ≡ capped_entry full)
HasRow (Err fault) says levels = IsRefused (cause fault) says
