-- The command `list`: all records.
use Rattle.std.specs.Prelude.{List, Ok, ℕ}
use Rattle.mb_desk.specs.Decision.{Decided}
use Rattle.mb_desk.specs.Plans.{answers}
use Rattle.mb_desk.specs.Recorded.{found}
use Rattle.mb_desk.specs.declared.plans.Plan.{Plan}
use Rattle.mb_outside.specs.Rows.{Rows}
use Rattle.mb_registry.specs.Listing.{list_text, listed_of}
use Rattle.mb_tables.specs.Answers.{◌>>=◌}

-- the list of all records, by kind and then by name, as it is printed
abbrev pub printed_list : Rows → Decided (List ℕ)
printed_list rows = found listed_of rows >>= λ listed. Ok (list_text listed)

-- the plan of the command: the list is printed
abbrev pub list_plan : Rows → Decided Plan
list_plan rows = printed_list rows >>= λ text. Ok (answers text)
