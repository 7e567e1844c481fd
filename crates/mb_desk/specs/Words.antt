-- The words of the command line: a table of commands, and one reader for all of them.
use Rattle.std.specs.Prelude.{List, None, Option, Some, [], codes, if◌then◌else◌, map, ℕ, ◌∷◌}
use Rattle.std.specs.Str.{bytes_eq}
use Rattle.mb_desk.specs.Forms.{AKind, APart, Count, File, Form, Name, Number, OfKind, OfOrder, OfPart, Text, Value, value_of}
use Rattle.mb_desk.specs.Limits.{largest_seed}
use Rattle.mb_desk.specs.Options.{Choice, are_options, chosen, fiber_choice, limit_choice, looks_choice, matrix_choice, order_choice, workers_choice}
use Rattle.mb_desk.specs.declared.requests.Request.{Request}
use Rattle.mb_desk.specs.declared.requests.Request.TheVariants as requests
use Rattle.mb_desk.specs.declared.requests.Request.TheVariants.{Analyse, Basis, Check, Dataset, Export, Generate, Import, Model, Moves, Reach, Remove, Report}

-- ---- the table

-- a command: its word, the forms of its positional words, its options, and the request of their
-- values, in this order
pub record Command : Type 0 where
  pub word : List ℕ
  pub forms : List Form
  pub choices : List Choice
  pub makes : List Value → Option Request

-- the word of a value, if there is one
abbrev pub word_in : Value → Option (List ℕ)
word_in (Text word) = Some word
word_in _ = None

-- the request that the values of `moves` make
abbrev pub moves_of_values : List Value → Option Request
moves_of_values (Text matrix ∷ Text moves ∷ []) =
    Some (Moves (record { matrix = matrix; moves = moves }))
moves_of_values _ = None

-- and those of `reach`
abbrev pub reach_of_values : List Value → Option Request
reach_of_values (Text matrix ∷ Text moves ∷ Text table ∷ Count limit ∷ []) =
    Some (Reach (record { matrix = matrix; moves = moves; table = table; limit = limit }))
reach_of_values _ = None

-- and that of `check`
abbrev pub check_of_values : List Value → Option Request
check_of_values (Text certificate ∷ []) = Some (Check certificate)
check_of_values _ = None

-- and that of `generate`
abbrev pub generate_of_values : List Value → Option Request
generate_of_values (Count seed ∷ Count workers ∷ []) = Some (Generate seed workers)
generate_of_values _ = None

-- and that of `dataset`
abbrev pub dataset_of_values : List Value → Option Request
dataset_of_values (Text name ∷ Text file ∷ []) = Some (Dataset name file)
dataset_of_values _ = None

-- and that of `model`
abbrev pub model_of_values : List Value → Option Request
model_of_values (Text name ∷ Text dataset ∷ Text file ∷ matrix ∷ []) =
    Some (Model (record { name = name; dataset = dataset; file = file; matrix = word_in matrix }))
model_of_values _ = None

-- and that of `basis`
abbrev pub basis_of_values : List Value → Option Request
basis_of_values (Text name ∷ Text model ∷ OfOrder order ∷ Count looks ∷ []) =
    Some (Basis (record { name = name; model = model; order = order; looks = looks }))
basis_of_values _ = None

-- and that of `import`
abbrev pub import_of_values : List Value → Option Request
import_of_values (Text name ∷ Text basis ∷ Text moves ∷ Count limit ∷ []) =
    Some (Import (record { name = name; basis = basis; moves = moves; limit = limit }))
import_of_values _ = None

-- and that of `analyse`
abbrev pub analyse_of_values : List Value → Option Request
analyse_of_values (Text name ∷ Text basis ∷ Count limit ∷ Count workers ∷ []) =
    Some (Analyse (record { name = name; basis = basis; limit = limit; workers = workers }))
analyse_of_values _ = None

-- and that of `report`
abbrev pub report_of_values : List Value → Option Request
report_of_values (Text name ∷ []) = Some (Report name)
report_of_values _ = None

-- and that of `list`
abbrev pub list_of_values : List Value → Option Request
list_of_values [] = Some requests.List
list_of_values _ = None

-- and that of `export`
abbrev pub export_of_values : List Value → Option Request
export_of_values (OfPart part ∷ Text name ∷ Text file ∷ []) = Some (Export part name file)
export_of_values _ = None

-- and that of `remove`
abbrev pub remove_of_values : List Value → Option Request
remove_of_values (OfKind kind ∷ Text name ∷ []) = Some (Remove kind name)
remove_of_values _ = None

-- a row of the table
abbrev pub command : List ℕ → List Form → List Choice → (List Value → Option Request) → Command
command word forms choices makes =
    record { word = word; forms = forms; choices = choices; makes = makes }

-- `moves MATRIX MOVES`
abbrev pub moves_command : Command
moves_command = command (codes "moves") (File ∷ File ∷ []) [] moves_of_values

-- `reach MATRIX MOVES TABLE [--limit L]`
abbrev pub reach_command : Command
reach_command =
    command (codes "reach") (File ∷ File ∷ File ∷ []) (limit_choice ∷ []) reach_of_values

-- `check CERTIFICATE`
abbrev pub check_command : Command
check_command = command (codes "check") (File ∷ []) [] check_of_values

-- `generate SEED [--workers W]`, a number up to 43,046,720
abbrev pub generate_command : Command
generate_command =
    command (codes "generate") (Number 0 largest_seed ∷ []) (workers_choice ∷ [])
    generate_of_values

-- `dataset NAME FILE`
abbrev pub dataset_command : Command
dataset_command = command (codes "dataset") (Name ∷ File ∷ []) [] dataset_of_values

-- `model NAME DATASET FILE [--matrix FILE]`
abbrev pub model_command : Command
model_command =
    command (codes "model") (Name ∷ Name ∷ File ∷ []) (matrix_choice ∷ []) model_of_values

-- `basis NAME MODEL [--order O] [--pairs K]`
abbrev pub basis_command : Command
basis_command =
    command (codes "basis") (Name ∷ Name ∷ []) (order_choice ∷ looks_choice ∷ []) basis_of_values

-- `import NAME BASIS MOVES [--limit L]`
abbrev pub import_command : Command
import_command =
    command (codes "import") (Name ∷ Name ∷ File ∷ []) (limit_choice ∷ []) import_of_values

-- `analyse NAME BASIS [--limit L] [--workers W]`
abbrev pub analyse_command : Command
analyse_command =
    command (codes "analyse") (Name ∷ Name ∷ []) (fiber_choice ∷ workers_choice ∷ [])
    analyse_of_values

-- `report NAME`
abbrev pub report_command : Command
report_command = command (codes "report") (Name ∷ []) [] report_of_values

-- `list`
abbrev pub list_command : Command
list_command = command (codes "list") [] [] list_of_values

-- `export WHAT NAME FILE`
abbrev pub export_command : Command
export_command = command (codes "export") (APart ∷ Name ∷ File ∷ []) [] export_of_values

-- `remove KIND NAME`
abbrev pub remove_command : Command
remove_command = command (codes "remove") (AKind ∷ Name ∷ []) [] remove_of_values

-- the commands that work with records
abbrev pub record_commands : List Command
record_commands =
    dataset_command ∷ model_command ∷ basis_command ∷ import_command ∷ analyse_command
    ∷ report_command ∷ list_command ∷ export_command ∷ remove_command ∷ []

-- the table
abbrev pub commands : List Command
commands =
    moves_command ∷ reach_command ∷ check_command ∷ generate_command ∷ record_commands

-- ---- the reader

-- a step of the reader, where the one before has a value
abbrev pub and_then : {A B : Type 0} → Option A → (A → Option B) → Option B
and_then None next = None
and_then (Some x) next = next x

-- the values of the options, and what they make
abbrev pub read_choices : List Choice → List (List ℕ) → (List Value → Option Request)
    → Option Request
read_choices [] words makes = makes []
read_choices (choice ∷ choices) words makes =
    and_then (chosen choice words) (λ value.
    read_choices choices words (λ values. makes (value ∷ values)))

-- the words after the positional ones: options of the command, each at most once, in any order
abbrev pub read_options : List Choice → List (List ℕ) → (List Value → Option Request)
    → Option Request
read_options choices words makes =
    if are_options (map (λ (choice : Choice). choice.name) choices) words
    then read_choices choices words makes else None

-- the positional words, in order, and then the options
abbrev pub read_forms : List Form → List Choice → List (List ℕ) → (List Value → Option Request)
    → Option Request
read_forms [] choices words makes = read_options choices words makes
read_forms (form ∷ forms) choices [] makes = None
read_forms (form ∷ forms) choices (word ∷ words) makes =
    and_then (value_of form word) (λ value.
    read_forms forms choices words (λ values. makes (value ∷ values)))

-- the request of the words after the command's own
abbrev pub read_command : Command → List (List ℕ) → Option Request
read_command command words = read_forms command.forms command.choices words command.makes

-- the command of a word
abbrev pub read_among : List Command → List ℕ → List (List ℕ) → Option Request
read_among [] word words = None
read_among (command ∷ others) word words =
    if bytes_eq word command.word then read_command command words
    else read_among others word words

-- the one request that the words are, if any
abbrev pub request_of : List (List ℕ) → Option Request
request_of [] = None
request_of (word ∷ words) = read_among commands word words
