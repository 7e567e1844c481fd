-- Bytes as a TOML table.
use Rattle.std.proofs.Common.{Bool, Err, List, None, Ok, Some, false, refl, sym, true, ℕ, ◌≡◌}
use Rattle.std.proofs.lemmas.Str.{IsUtf8-from_is_utf8, is_utf8-from_IsUtf8}
use Rattle.std.specs.Str.{IsUtf8, is_utf8}
use Rattle.mb_kinds.specs.ModelText.{toml_of}
use Rattle.mb_kinds.specs.declared.kind_fault.KindFault.TheVariants.{Toml}
use Rattle.toml.specs.Data.{Members}
use Rattle.toml.specs.Parse.{parse_document}

-- a text that parses
pub toml_read : (text : List ℕ) (table : Members) → IsUtf8 text
    → parse_document text ≡ Some table → toml_of text ≡ Ok table
toml_read text table utf is = rw (is_utf8-from_IsUtf8 text utf, is)

-- bytes that are no text, or don't parse
pub toml_refused : (text : List ℕ) → (IsUtf8 text → parse_document text ≡ None)
    → toml_of text ≡ Err Toml
toml_refused text none = decided (is_utf8 text) refl
  where
    decided : (b : Bool) → b ≡ is_utf8 text → toml_of text ≡ Err Toml
    decided true passes = rw (sym passes, none (IsUtf8-from_is_utf8 text (sym passes)))
    decided false fails = rw (sym fails)
