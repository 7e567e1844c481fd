-- The rows of a keeper: a finite map from kind and name to a body.
use Rattle.std.specs.Cmp.Lexicographic.{slice_cmp}
use Rattle.std.specs.Coded.{Coded, coded_list, coded_ℕ, coded×}
use Rattle.std.specs.FinMap.{FinMap, code, from_entries, get, insert, keys, len, remove}
use Rattle.std.specs.Ordering.{nat_cmp, ordering_then}
use Rattle.std.specs.declared.cmp.Ordering.{Ordering}
use Rattle.std.specs.Prelude.{Bool, Err, List, None, Ok, Option, Result, Some, String, Vec, [], false, if◌then◌else◌, length, map, option_map, string_bytes, true, ℕ, ◌==◌, ◌∷◌, ◌≡◌}
use Rattle.std.specs.declared.alloc.Global.{Global}
use Rattle.mb_outside.specs.declared.keeper.KeepFault.{KeepFault}
use Rattle.mb_outside.specs.declared.keeper.KeepFault.TheVariants.{Failed, OutOfMemory}
use Rattle.mb_outside.specs.declared.keeper.Row.{Row}

-- the number of a kind and a name
abbrev pub Key : Type 0
Key = ℕ × List ℕ

-- by kind, and then by name in the order of bytes
abbrev pub key_cmp : Key → Key → Ordering
key_cmp a b = ordering_then (nat_cmp a.0 b.0) (slice_cmp nat_cmp a.1 b.1)

-- the bodies by kind and name
abbrev pub Rows : Type 0
Rows = FinMap key_cmp (List ℕ)

-- rows are stored as their entries
abbrev pub rows_code : Coded Rows
rows_code = code (coded× coded_ℕ (coded_list coded_ℕ)) (coded_list coded_ℕ)

-- whether the keeper failed
abbrev pub is_failure : KeepFault → Bool
is_failure Failed = true
is_failure OutOfMemory = false

-- whether the answer says so
abbrev pub has_failed : {A : Type 0} → Result A KeepFault → Bool
has_failed (Ok _) = false
has_failed (Err fault) = is_failure fault

-- the names of a kind among keys
unfoldable pub names_among : ℕ → List Key → List (List ℕ)
names_among kind [] = []
names_among kind (key ∷ keys) =
    if key.0 == kind then key.1 ∷ names_among kind keys else names_among kind keys

-- all names of a kind, ascending
abbrev pub names_of : ℕ → Rows → List (List ℕ)
names_of kind rows = names_among kind (keys rows)

-- a look-up changes no row, and finds the body, or that there is none
abbrev pub Finds : Key → Rows → Rows → Result (Option (Vec ℕ Global)) KeepFault → Type 0
Finds key before after (Ok found) =
    (after ≡ before) × (option_map (λ body. body.items) found ≡ get before key)
Finds key before after (Err fault) = after ≡ before

-- a row is added where there was none; else the rows stay, and the answer is the body kept
abbrev pub Adds : Key → List ℕ → Rows → Rows → Result (Option (Vec ℕ Global)) KeepFault → Type 0
Adds key body before after (Ok None) = (get before key ≡ None) × (after ≡ insert before key body)
Adds key body before after (Ok (Some kept)) =
    (get before key ≡ Some kept.items) × (after ≡ before)
Adds key body before after (Err fault) = after ≡ before

-- a row is taken out, or there was none
abbrev pub TakesOut : Key → Rows → Rows → Result Bool KeepFault → Type 0
TakesOut key before after (Ok true) =
    ((body : List ℕ) × (get before key ≡ Some body)) × (after ≡ remove before key)
TakesOut key before after (Ok false) = (get before key ≡ None) × (after ≡ before)
TakesOut key before after (Err fault) = after ≡ before

-- a listing changes no row, and gives all names of the kind
abbrev pub Lists : ℕ → Rows → Rows → Result (Vec (String Global) Global) KeepFault → Type 0
Lists kind before after (Ok names) =
    (after ≡ before) × (map string_bytes names.items ≡ names_of kind before)
Lists kind before after (Err fault) = after ≡ before

-- a row of a list as its key and its body
abbrev pub entry_of : Row → Key × List ℕ
entry_of row = ((row.kind, string_bytes row.name), row.body.items)

-- the rows of a list
abbrev pub rows_of : List Row → Rows
rows_of rows = from_entries (map entry_of rows)

-- no two rows of a list share kind and name: the map has as many rows as the list
abbrev pub AreApart : List Row → Type 0
AreApart rows = len (rows_of rows) ≡ length rows

-- the rows are those of the list; after a refusal they are as before
abbrev pub Replaces : List Row → Rows → Rows → Result (Unit {0}) KeepFault → Type 0
Replaces rows before after (Ok _) = after ≡ rows_of rows
Replaces rows before after (Err fault) = after ≡ before
