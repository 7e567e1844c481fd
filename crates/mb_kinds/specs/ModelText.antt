-- What a model file says: the kind, and the values of the keys, or the first that is missing.
use Rattle.std.specs.Prelude.{Err, List, None, Ok, Option, Result, Some, [], codes, if◌then◌else◌, nat_le, negsuc, pos, ℕ, ℤ, ◌&&◌, ◌∷◌}
use Rattle.std.specs.Str.{is_utf8}
use Rattle.mb_kinds.specs.declared.kind_fault.KindFault.{KindFault}
use Rattle.mb_kinds.specs.declared.kind_fault.KindFault.TheVariants.{MissingKey, OutOfMemory, Toml}
use Rattle.mb_kinds.specs.declared.kind_fault.ModelKey.{ModelKey}
use Rattle.mb_kinds.specs.declared.kind_fault.ModelKey.TheVariants.{Base, Classes, Generators, Scale}
use Rattle.mb_tables.specs.Answers.{◌>>=◌}
use Rattle.toml.specs.Data.{Data, Items, Members, array, get_member, integer, item, no_items, string}
use Rattle.toml.specs.Parse.{parse_document}

-- the cause of a refusal; want of memory has none
abbrev pub kind_cause : KindFault → Option KindFault
kind_cause OutOfMemory = None
kind_cause fault = Some fault

-- the table, where there is one
abbrev pub parsed : Option Members → Result Members KindFault
parsed (Some members) = Ok members
parsed None = Err Toml

-- the TOML table that the bytes are
abbrev pub toml_of : List ℕ → Result Members KindFault
toml_of text = if is_utf8 text then parsed (parse_document text) else Err Toml

-- a value as a text
abbrev pub text_in : ModelKey → Data → Result (List ℕ) KindFault
text_in key (string text) = Ok text
text_in key _ = Err (MissingKey key)

-- whole numbers as a number from the lowest to the highest
abbrev pub number_within : ModelKey → ℕ → ℕ → ℤ → Result ℕ KindFault
number_within key lowest highest (pos n) =
    if nat_le lowest n && nat_le n highest then Ok n else Err (MissingKey key)
number_within key lowest highest (negsuc n) = Err (MissingKey key)

-- a value as a number from the lowest to the highest
abbrev pub number_in : ModelKey → ℕ → ℕ → Data → Result ℕ KindFault
number_in key lowest highest (integer z) = number_within key lowest highest z
number_in key lowest highest _ = Err (MissingKey key)

-- each item, read in the same way
abbrev pub items_by : {X : Type 0} → (Data → Result X KindFault) → Items → Result (List X) KindFault
items_by read no_items = Ok []
items_by read (item value items) = do
  x ← read value
  xs ← items_by read items
  Ok (x ∷ xs)

-- a value as a list of values that are read in the same way
abbrev pub list_in : {X : Type 0} → ModelKey → (Data → Result X KindFault) → Data →
    Result (List X) KindFault
list_in key read (array items) = items_by read items
list_in key read _ = Err (MissingKey key)

-- the value of a key that has to be there
abbrev pub needed : {X : Type 0} → ModelKey → (Data → Result X KindFault) → Option Data →
    Result X KindFault
needed key read None = Err (MissingKey key)
needed key read (Some value) = read value

-- the value of a key that may be left out
abbrev pub optional : {X : Type 0} → (Data → Result X KindFault) → Option Data →
    Result (Option X) KindFault
optional read None = Ok None
optional read (Some value) = do
  x ← read value
  Ok (Some x)

-- the text at a key
abbrev pub text_at : ModelKey → List ℕ → Members → Result (List ℕ) KindFault
text_at key name members = needed key (text_in key) (get_member name members)

-- the generators: lists of names of factors
abbrev pub generators_at : Members → Result (List (List (List ℕ))) KindFault
generators_at members =
    needed Generators (list_in Generators (list_in Generators (text_in Generators)))
    (get_member (codes "generators") members)

-- the number of classes, 1 to 10
abbrev pub classes_at : Members → Result ℕ KindFault
classes_at members =
    needed Classes (number_in Classes 1 10) (get_member (codes "classes") members)

-- the numbers of the scale, where it is given
abbrev pub scale_at : Members → Result (Option (List ℕ)) KindFault
scale_at members =
    optional (list_in Scale (number_in Scale 0 4294967295)) (get_member (codes "scale") members)

-- the base numbers, where they are given
abbrev pub base_at : Members → Result (Option (List ℕ)) KindFault
base_at members =
    optional (list_in Base (number_in Base 1 4294967295)) (get_member (codes "base") members)
