-- The options of a command: what each may be, and the value that words give to it.
use Rattle.std.specs.List.{list_any}
use Rattle.std.specs.Prelude.{Bool, List, None, Option, Some, [], codes, false, if◌then◌else◌, true, ℕ, ◌&&◌, ◌++◌, ◌∷◌}
use Rattle.std.specs.Str.{bytes_eq}
use Rattle.mb_completion.specs.Limits.{most_looks}
use Rattle.mb_desk.specs.Forms.{Absent, AnOrder, Count, File, Form, Number, OfOrder, Text, Value, value_of}
use Rattle.mb_desk.specs.Limits.{largest_limit, most_workers}
use Rattle.mb_order.specs.declared.order.Order.TheVariants.{Grevlex}
use Rattle.mb_rings.specs.Walk.{most_tables}

-- an option: its name, the form of its value, and the value where it isn't given
pub record Choice : Type 0 where
  pub name : List ℕ
  pub form : Form
  pub otherwise : Value

-- an option whose value is a number from the lowest to the highest
abbrev pub number_choice : List ℕ → ℕ → ℕ → ℕ → Choice
number_choice name lowest highest otherwise =
    record { name = name; form = Number lowest highest; otherwise = Count otherwise }

-- `--limit L`, of 1 to 100,000 tables
abbrev pub limit_choice : Choice
limit_choice = number_choice (codes "--limit") 1 largest_limit largest_limit

-- `--limit L`, of 1 to 2,000,000 tables
abbrev pub fiber_choice : Choice
fiber_choice = number_choice (codes "--limit") 1 most_tables most_tables

-- `--workers W`, of 1 to 64
abbrev pub workers_choice : Choice
workers_choice = number_choice (codes "--workers") 1 most_workers 1

-- `--pairs K`, of 0 to 1,000,000 pairs
abbrev pub looks_choice : Choice
looks_choice = number_choice (codes "--pairs") 0 most_looks most_looks

-- `--order O`
abbrev pub order_choice : Choice
order_choice = record { name = codes "--order"; form = AnOrder; otherwise = OfOrder Grevlex }

-- `--matrix FILE`
abbrev pub matrix_choice : Choice
matrix_choice = record { name = codes "--matrix"; form = File; otherwise = Absent }

-- a word that may be given, as a value
abbrev pub value_given : Option (List ℕ) → Value
value_given None = Absent
value_given (Some word) = Text word

-- whether these are options of the names, each with a value
unfoldable pub are_options : List (List ℕ) → List (List ℕ) → Bool
are_options names [] = true
are_options names (name ∷ []) = false
are_options names (name ∷ value ∷ words) =
    list_any (bytes_eq name) names && are_options names words

-- the value that one option gives to a name
abbrev pub given_by : List ℕ → List ℕ → List ℕ → List (List ℕ)
given_by name option value = if bytes_eq option name then value ∷ [] else []

-- the values that the words give to a name
unfoldable pub given : List ℕ → List (List ℕ) → List (List ℕ)
given name [] = []
given name (option ∷ []) = []
given name (option ∷ value ∷ words) = given_by name option value ++ given name words

-- one value or none, but no two
abbrev pub at_most_one : List (List ℕ) → Option (Option (List ℕ))
at_most_one [] = Some None
at_most_one (value ∷ []) = Some (Some value)
at_most_one _ = None

-- the value of an option that was given at most once
abbrev pub chosen_by : Choice → Option (Option (List ℕ)) → Option Value
chosen_by choice None = None
chosen_by choice (Some None) = Some choice.otherwise
chosen_by choice (Some (Some word)) = value_of choice.form word

-- the value of an option among the words
abbrev pub chosen : Choice → List (List ℕ) → Option Value
chosen choice words = chosen_by choice (at_most_one (given choice.name words))
