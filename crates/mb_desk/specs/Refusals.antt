-- The status and the one line of each refusal.
use Rattle.std.specs.Prelude.{List, [], codes, ℕ, ◌∷◌}
use Rattle.mb_desk.specs.Lines.{Shown, counts, line_of, number, numbers, text}
use Rattle.mb_desk.specs.ModelKeys.{key_word}
use Rattle.mb_desk.specs.Reasons.{reason_word}
use Rattle.mb_desk.specs.declared.refusals.Refusal.{Refusal}
use Rattle.mb_desk.specs.declared.refusals.Refusal.TheVariants.{BadBase, BadCount, BadNumber, BadRecord, BadScaleRow, CellCount, Certificate, Conflict, Csv, EmptyGenerators, EntryTooLarge, Exponent, InUse, MissingKey, Negative, NoCell, NoCountColumn, NoFactor, NoFile, NoSize, NotAMove, NotATable, NotBasis, NotBinary, NotTwoFactors, Repeated, ScaleNotCover, Text, Toml, TooFew, TooLarge, TooLargeRule, TooLong, TooMany, TooManyCells, TooManyCombinations, TooManyMargins, TooWide, TooWideNumber, TotalTooLarge, Unfinished, Unknown, UnknownFactor, UnknownKind, WidthDiffers, ZeroColumn}
use Rattle.mb_desk.specs.declared.status.Status.{Status}
use Rattle.mb_desk.specs.declared.status.Status.TheVariants as statuses
use Rattle.mb_registry.specs.Kinds.{kind_word}
use Rattle.mb_registry.specs.declared.kinds.Kind.{Kind}

-- the status that a refusal ends in: a limit, the registry, or what was read
abbrev pub status_of : Refusal → Status
status_of (TooLong file) = statuses.Limit
status_of (TooLarge seen) = statuses.Limit
status_of (TooLargeRule rule seen) = statuses.Limit
status_of TooWide = statuses.Limit
status_of (Unfinished looked left) = statuses.Limit
status_of (Exponent pair) = statuses.Limit
status_of (Unknown kind name) = statuses.Registry
status_of (Conflict kind name) = statuses.Registry
status_of (InUse kind name by) = statuses.Registry
status_of (BadRecord kind name) = statuses.Registry
status_of _ = statuses.Refused

-- the name of each
abbrev pub name_of : Refusal → List ℕ
name_of (NoFile file) = codes "NoFile"
name_of (TooLong file) = codes "TooLong"
name_of (NoSize file) = codes "NoSize"
name_of (BadNumber file token) = codes "BadNumber"
name_of (TooWideNumber file token) = codes "TooWideNumber"
name_of (TooFew file found wanted) = codes "TooFew"
name_of (TooMany file wanted) = codes "TooMany"
name_of (NotATable file) = codes "NotATable"
name_of (Csv file place) = codes "Csv"
name_of (NoCountColumn file) = codes "NoCountColumn"
name_of (NoFactor file) = codes "NoFactor"
name_of (BadCount file place) = codes "BadCount"
name_of (Repeated file place) = codes "Repeated"
name_of (TooManyCombinations file) = codes "TooManyCells"
name_of (TotalTooLarge file) = codes "TotalTooLarge"
name_of (NoCell file) = codes "NoCell"
name_of (Toml file) = codes "Toml"
name_of (Text file line) = codes "Text"
name_of (Certificate line reason) = codes "Certificate"
name_of (WidthDiffers matrix moves) = codes "WidthDiffers"
name_of (NotAMove row) = codes "NotAMove"
name_of TooManyCells = codes "TooManyCells"
name_of TooManyMargins = codes "TooManyMargins"
name_of (Negative row cell) = codes "Negative"
name_of (EntryTooLarge row cell) = codes "EntryTooLarge"
name_of (ZeroColumn cell) = codes "ZeroColumn"
name_of UnknownKind = codes "UnknownKind"
name_of (MissingKey key) = codes "MissingKey"
name_of UnknownFactor = codes "UnknownFactor"
name_of EmptyGenerators = codes "EmptyGenerators"
name_of NotTwoFactors = codes "NotTwoFactors"
name_of NotBinary = codes "NotBinary"
name_of (CellCount matrix cells) = codes "CellCount"
name_of (BadScaleRow row) = codes "BadScaleRow"
name_of (ScaleNotCover cell) = codes "ScaleNotCover"
name_of (BadBase cell) = codes "BadBase"
name_of (NotBasis rule left right) = codes "NotBasis"
name_of (TooLarge seen) = codes "TooLarge"
name_of (TooLargeRule rule seen) = codes "TooLarge"
name_of TooWide = codes "TooWide"
name_of (Unfinished looked left) = codes "Unfinished"
name_of (Exponent pair) = codes "Exponent"
name_of (Unknown kind name) = codes "Unknown"
name_of (Conflict kind name) = codes "Conflict"
name_of (InUse kind name by) = codes "InUse"
name_of (BadRecord kind name) = codes "BadRecord"

-- the field that names a file
abbrev pub in_file : ℕ → Shown
in_file file = number (codes "file") file

-- the field that names a line of a text
abbrev pub at_line : ℕ → Shown
at_line line = number (codes "line") line

-- the fields that name a record of a file
abbrev pub at_record : ℕ → ℕ → List Shown
at_record file place = in_file file ∷ number (codes "record") place ∷ []

-- the fields that name a record of the registry
abbrev pub record_fields : Kind → List ℕ → List Shown
record_fields kind name = text (codes "kind") (kind_word kind) ∷ text (codes "name") name ∷ []

-- the fields that name a row and a cell
abbrev pub place_fields : ℕ → ℕ → List Shown
place_fields row cell = number (codes "row") row ∷ number (codes "cell") cell ∷ []

-- the fields of each
abbrev pub fields_of : Refusal → List Shown
fields_of (NoFile file) = in_file file ∷ []
fields_of (TooLong file) = in_file file ∷ []
fields_of (NoSize file) = in_file file ∷ []
fields_of (BadNumber file token) = in_file file ∷ number (codes "token") token ∷ []
fields_of (TooWideNumber file token) = in_file file ∷ number (codes "token") token ∷ []
fields_of (TooFew file found wanted) =
    in_file file ∷ number (codes "found") found ∷ number (codes "wanted") wanted ∷ []
fields_of (TooMany file wanted) = in_file file ∷ number (codes "wanted") wanted ∷ []
fields_of (NotATable file) = in_file file ∷ []
fields_of (Csv file place) = at_record file place
fields_of (NoCountColumn file) = in_file file ∷ []
fields_of (NoFactor file) = in_file file ∷ []
fields_of (BadCount file place) = at_record file place
fields_of (Repeated file place) = at_record file place
fields_of (TooManyCombinations file) = in_file file ∷ []
fields_of (TotalTooLarge file) = in_file file ∷ []
fields_of (NoCell file) = in_file file ∷ []
fields_of (Toml file) = in_file file ∷ []
fields_of (Text file line) = in_file file ∷ at_line line ∷ []
fields_of (Certificate line reason) =
    at_line line ∷ text (codes "reason") (reason_word reason) ∷ []
fields_of (WidthDiffers matrix moves) =
    number (codes "matrix") matrix ∷ number (codes "moves") moves ∷ []
fields_of (NotAMove row) = number (codes "row") row ∷ []
fields_of TooManyCells = []
fields_of TooManyMargins = []
fields_of (Negative row cell) = place_fields row cell
fields_of (EntryTooLarge row cell) = place_fields row cell
fields_of (ZeroColumn cell) = number (codes "cell") cell ∷ []
fields_of UnknownKind = []
fields_of (MissingKey key) = text (codes "key") (key_word key) ∷ []
fields_of UnknownFactor = []
fields_of EmptyGenerators = []
fields_of NotTwoFactors = []
fields_of NotBinary = []
fields_of (CellCount matrix cells) =
    number (codes "matrix") matrix ∷ number (codes "data") cells ∷ []
fields_of (BadScaleRow row) = number (codes "row") row ∷ []
fields_of (ScaleNotCover cell) = number (codes "cell") cell ∷ []
fields_of (BadBase cell) = number (codes "cell") cell ∷ []
fields_of (NotBasis rule left right) =
    number (codes "rule") rule ∷ counts (codes "left") left ∷ counts (codes "right") right ∷ []
fields_of (TooLargeRule rule seen) = number (codes "rule") rule ∷ number (codes "seen") seen ∷ []
fields_of (TooLarge seen) = number (codes "seen") seen ∷ []
fields_of TooWide = []
fields_of (Unfinished looked left) =
    number (codes "looked") looked ∷ numbers (codes "left") left ∷ []
fields_of (Exponent pair) = numbers (codes "pair") pair ∷ []
fields_of (Unknown kind name) = record_fields kind name
fields_of (Conflict kind name) = record_fields kind name
fields_of (InUse kind name by) =
    text (codes "kind") (kind_word kind) ∷ text (codes "name") name ∷ text (codes "by") by ∷ []
fields_of (BadRecord kind name) = record_fields kind name

-- the line that is put: the name, and each field as a key and a value
abbrev pub refusal_line : Refusal → List ℕ
refusal_line refusal = line_of (name_of refusal) (fields_of refusal)
