-- The forms of words of the command line, and what a word is by its form.
use Rattle.std.specs.Prelude.{Bool, List, None, Option, Some, String, [], codes, false, if◌then◌else◌, length, map, nat_eq, nat_le, not, option_map, string_bytes, ℕ, ◌&&◌, ◌∷◌}
use Rattle.std.specs.Str.{bytes_eq}
use Rattle.std.specs.declared.alloc.Global.{Global}
use Rattle.mb_desk.specs.Limits.{longest_word}
use Rattle.mb_desk.specs.declared.parts.Part.{Part}
use Rattle.mb_desk.specs.declared.parts.Part.TheVariants as parts
use Rattle.mb_order.specs.declared.order.Order.{Order}
use Rattle.mb_order.specs.declared.order.Order.TheVariants.{Grevlex, Lex}
use Rattle.mb_registry.specs.declared.kinds.Kind.{Kind}
use Rattle.mb_registry.specs.declared.kinds.Kind.TheVariants as kinds
use Rattle.mb_text.specs.Name.{is_name}
use Rattle.mb_text.specs.Plain.{number_within}

-- the bytes of each word
abbrev pub texts : List (String Global) → List (List ℕ)
texts words = map string_bytes words

-- the form of a word: the name of a file or of a record, a number in a range, or one of the words
-- for a kind of records, for what is exported, for an order of monomials
pub data Form : Type 0 where
  File : Form
  Name : Form
  Number : (lowest highest : ℕ) → Form
  AKind : Form
  APart : Form
  AnOrder : Form

-- what a word is by its form; and that there is none
pub data Value : Type 0 where
  Text : List ℕ → Value
  Count : ℕ → Value
  OfKind : Kind → Value
  OfPart : Part → Value
  OfOrder : Order → Value
  Absent : Value

-- a file word has 1 to 4,096 bytes, the first of them not `-`
abbrev pub is_file : List ℕ → Bool
is_file [] = false
is_file (first ∷ bytes) = not (nat_eq first 45) && nat_le (length (first ∷ bytes)) longest_word

-- the kind of records that a word is for
abbrev pub kind_of : List ℕ → Option Kind
kind_of word =
    if bytes_eq word (codes "dataset") then Some kinds.Dataset
    else if bytes_eq word (codes "model") then Some kinds.Model
    else if bytes_eq word (codes "basis") then Some kinds.Basis
    else if bytes_eq word (codes "analysis") then Some kinds.Analysis
    else None

-- what is exported by a word
abbrev pub part_of : List ℕ → Option Part
part_of word =
    if bytes_eq word (codes "dataset") then Some parts.Dataset
    else if bytes_eq word (codes "matrix") then Some parts.Matrix
    else if bytes_eq word (codes "moves") then Some parts.Moves
    else if bytes_eq word (codes "certificate") then Some parts.Certificate
    else if bytes_eq word (codes "rules") then Some parts.Rules
    else None

-- the order of monomials that a word is for
abbrev pub order_of : List ℕ → Option Order
order_of word =
    if bytes_eq word (codes "lex") then Some Lex
    else if bytes_eq word (codes "grevlex") then Some Grevlex
    else None

-- what a word is by a form, where it is of it
abbrev pub value_of : Form → List ℕ → Option Value
value_of File word = if is_file word then Some (Text word) else None
value_of Name word = if is_name word then Some (Text word) else None
value_of AKind word = option_map OfKind (kind_of word)
value_of APart word = option_map OfPart (part_of word)
value_of AnOrder word = option_map OfOrder (order_of word)
value_of (Number lowest highest) word = option_map Count (number_within lowest highest word)
