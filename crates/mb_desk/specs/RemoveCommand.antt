-- The command `remove`: a record to which no other refers is taken out.
use Rattle.std.specs.Prelude.{List, Ok, [], codes, ℕ, ◌++◌, ◌∷◌}
use Rattle.mb_desk.specs.Decision.{Decided, or_refusal}
use Rattle.mb_desk.specs.Recorded.{change_refusal}
use Rattle.mb_desk.specs.declared.plans.Change.TheVariants.{Removes}
use Rattle.mb_desk.specs.declared.plans.Plan.{Plan}
use Rattle.mb_outside.specs.Rows.{Rows}
use Rattle.mb_registry.specs.Kinds.{kind_word}
use Rattle.mb_registry.specs.Removing.{removed_of}
use Rattle.mb_registry.specs.declared.kinds.Kind.{Kind}
use Rattle.mb_tables.specs.Answers.{◌>>=◌}

-- the printed line
abbrev pub removed_line : Kind → List ℕ → List ℕ
removed_line kind name = codes "removed " ++ (kind_word kind ++ (32 ∷ name ++ 10 ∷ []))

-- the record of this kind and name is there, and no other refers to it
abbrev pub removable : Kind → List ℕ → Rows → Decided (Unit {0})
removable kind name rows = or_refusal (change_refusal kind name) (removed_of kind name rows)

-- the plan that takes it out and prints the line
abbrev pub removing : Kind → List ℕ → Plan
removing kind name = record { answer = removed_line kind name; change = Removes kind name }

-- the plan of the command, where nothing refuses it
abbrev pub remove_plan : Kind → List ℕ → Rows → Decided Plan
remove_plan kind name rows =
    removable kind name rows >>= λ done. Ok (removing kind name)
