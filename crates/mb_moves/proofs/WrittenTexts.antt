-- The written form, and what its tokens say.
use Rattle.std.proofs.Common.{All, List, Ok, Some, [], ap, arith, length, map, pos, refl, sym, ℕ, ℤ, ◌++◌, ◌<◌, ◌^◌, ◌≡◌, ◌≢◌, ◌≤◌, ◌∙◌, ◌∷◌}
use Rattle.std.proofs.lemmas.List.{map-append}
use Rattle.std.proofs.lemmas.List.Elements.{All-from_recursion, All-head, All-tail, recursion_from_All}
use Rattle.std.specs.Fmt.{signed_decimal}
use Rattle.std.specs.Int.RustNames.{unsigned_abs}
use Rattle.std.specs.List.{AllByRecursion, flat_map}
use Rattle.mb_tables.specs.Entries.{IsEntry}
use Rattle.mb_tables.specs.Rows.{AreRows, Rows}
use Rattle.mb_text.proofs.LineTokens.{token-signed_decimal, tokens-line}
use Rattle.mb_text.proofs.SpellingLaws.{number_of-signed_decimal}
use Rattle.mb_text.proofs.TokenSteps.{tokens-nil}
use Rattle.mb_text.specs.Numerals.{number_of}
use Rattle.mb_text.specs.Tokens.{IsToken, tokens}
use Rattle.mb_moves.proofs.AcceptedTexts.{array_given, in_entry}
use Rattle.mb_moves.proofs.RowsEndToEnd.{end_to_end, entries_end_to_end}
use Rattle.mb_moves.specs.GridText.{array_in}
use Rattle.mb_moves.specs.Written.{number_line, written}

-- a number of at most 64 digits
abbrev IsShort : ℤ → Type 0
IsShort z = unsigned_abs z < 10 ^ 64

-- a row that isn't empty, of such numbers
record IsLine (row : List ℤ) : Type 0 where
  some : row ≢ []
  short : AllByRecursion IsShort row

-- written numbers are tokens
are_tokens : (zs : List ℤ) → AllByRecursion IsShort zs →
    AllByRecursion IsToken (map signed_decimal zs)
are_tokens [] h = tt
are_tokens (z ∷ zs) h = (token-signed_decimal z h.0, are_tokens zs h.1)

-- a list that isn't empty, mapped
some_map : (zs : List ℤ) → zs ≢ [] → map signed_decimal zs ≢ []
some_map [] h e = h refl
some_map (z ∷ zs) h e = cc

-- the tokens of a line of numbers
tokens-number_line : (zs : List ℤ) (rest : List ℕ) → IsLine zs →
    tokens (number_line zs ++ rest) ≡ map signed_decimal zs ++ tokens rest
tokens-number_line zs rest h =
    tokens-line (map signed_decimal zs) rest (some_map zs h.some)
    (All-from_recursion IsToken (map signed_decimal zs) (are_tokens zs h.short))

-- the tokens of lines
tokens-lines : (rows : List (List ℤ)) → AllByRecursion IsLine rows →
    tokens (flat_map number_line rows) ≡ map signed_decimal (end_to_end rows)
tokens-lines [] h = tokens-nil
tokens-lines (row ∷ rows) h =
    tokens-number_line row (flat_map number_line rows) h.0
    ∙ ap (λ more. map signed_decimal row ++ more) (tokens-lines rows h.1)
    ∙ sym (map-append signed_decimal row (end_to_end rows))

-- numbers that were written are read
numbers_again : (zs : List ℤ) → AllByRecursion IsShort zs →
    map number_of (map signed_decimal zs) ≡ map Some zs
numbers_again [] h = refl
numbers_again (z ∷ zs) h =
    ap (λ number. number ∷ map number_of (map signed_decimal zs)) (number_of-signed_decimal z h.0)
    ∙ ap (λ numbers. Some z ∷ numbers) (numbers_again zs h.1)

-- entries are short
short_entries : (zs : List ℤ) → AllByRecursion IsEntry zs → AllByRecursion IsShort zs
short_entries [] h = tt
short_entries (z ∷ zs) h = (let small = in_entry z h.0 in omega arith, short_entries zs h.1)

-- rows of some width are lines
lines_of_rows : (width : ℕ) (rows : List (List ℤ)) → 1 ≤ width →
    All (λ row. length row ≡ width) rows → All (λ row. All IsEntry row) rows →
    AllByRecursion IsLine rows
lines_of_rows width [] some wide each = tt
lines_of_rows width (row ∷ rows) some wide each = (
  record {
    some = λ e. let w = All-head (λ (r : List ℤ). length r ≡ width) row rows wide in
        let none : length row ≡ 0 = ap length e in omega arith;
    short = short_entries row (recursion_from_All IsEntry row
        (All-head (λ (r : List ℤ). All IsEntry r) row rows each));
  },
  lines_of_rows width rows some (All-tail (λ (r : List ℤ). length r ≡ width) row rows wide)
      (All-tail (λ (r : List ℤ). All IsEntry r) row rows each),
)

module _ (lowest highest : ℕ) (few : highest < 2 ^ 64) (array : Rows)
    (h : AreRows lowest highest array) where
  -- the numbers of an array
  numbers : List ℤ
  numbers = pos (length array.rows) ∷ pos array.width ∷ end_to_end array.rows

  -- all of them are short
  short_numbers : AllByRecursion IsShort numbers
  unfolding numbers
  short_numbers =
      let count = h.few in
      let width = h.narrow in (
        omega arith,
        (
          omega arith,
          short_entries (end_to_end array.rows) (recursion_from_All IsEntry
              (end_to_end array.rows) (entries_end_to_end array.rows h.entries)),
        ),
      )

  -- the tokens of the written form
  tokens-written : tokens (written array) ≡ map signed_decimal numbers
  unfolding written numbers
  tokens-written =
      let sizes : List ℤ = pos (length array.rows) ∷ pos array.width ∷ [] in
      tokens-number_line sizes (flat_map number_line array.rows) (record {
        some = λ e. cc;
        short = (short_numbers.0, (short_numbers.1.0, tt));
      })
      ∙ ap (λ more. map signed_decimal sizes ++ more) (tokens-lines array.rows
      (lines_of_rows array.width array.rows h.positive h.each h.entries))

  -- the written form is read
  pub written_given : array_in lowest highest (tokens (written array)) ≡ Ok array
  unfolding numbers
  written_given =
      array_given lowest highest (tokens (written array)) array h
      (ap (map number_of) tokens-written ∙ numbers_again numbers short_numbers)
