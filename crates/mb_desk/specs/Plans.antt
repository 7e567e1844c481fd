-- Plans in the words of the definitions.
use Rattle.std.specs.Prelude.{List, ℕ}
use Rattle.mb_desk.specs.declared.plans.Change.TheVariants.{Nothing}
use Rattle.mb_desk.specs.declared.plans.Plan.{Plan}

-- an answer that changes nothing
abbrev pub answers : List ℕ → Plan
answers text = record { answer = text; change = Nothing }
