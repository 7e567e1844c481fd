-- The items of a report's last lines: written, read, and their bytes.
use Rattle.std.proofs.Common.{List, None, Option, Some, [], ap, arith, false, length, nat_le, refl, suc, sym, true, zero, ℕ, ◌%◌, ◌&&◌, ◌*◌, ◌++◌, ◌+◌, ◌-◌, ◌/◌, ◌<◌, ◌==◌, ◌^◌, ◌∙◌, ◌∷◌, ◌≡◌, ◌≤◌, codes, cond, Bool}
use Rattle.std.proofs.lemmas.Bool.{and_parts, le-leb, leb-true}
use Rattle.std.proofs.lemmas.Bool.Decides.{nat_tests}
use Rattle.std.proofs.lemmas.List.Elements.{All-from_recursion}
use Rattle.std.proofs.lemmas.List.Folds.{list_all-append}
use Rattle.std.proofs.lemmas.List.Splits.{join_with_byte-slice_split}
use Rattle.std.proofs.lemmas.List.Sums.{AllPass-from_list_all}
use Rattle.std.specs.Char.{is_ascii_digit}
use Rattle.std.specs.Fmt.{decimal}
use Rattle.std.specs.List.{join_with_byte}
use Rattle.std.specs.Option.{option_and_then}
use Rattle.mb_reports.specs.Report.{fraction_item}
use Rattle.mb_reports.specs.ReportText.{are_sums, both, positive_number, sums_of, two_numbers, wide_number}
use Rattle.mb_text.proofs.ItemBytes.{decimal_is_item, is_item, is_item_byte}
use Rattle.mb_text.proofs.LineReaders.{and_then_read, passing_read, passing_written}
use Rattle.mb_text.proofs.NumeralItems.{decimal_is_numeral, number_read, number_written, numeral_digits}
use Rattle.mb_text.proofs.PieceLaws.{pieces_again}
use Rattle.mb_text.specs.Laws.{Lacks}
use Rattle.mb_text.specs.LineForms.{passing}
use Rattle.mb_text.specs.Lines.{pieces}
use Rattle.mb_weights.specs.Decimals.{decimals_of, digits}

-- a number below 2^128 is read from its decimal form
wide_written : (n : ℕ) → n < 2 ^ 128 → wide_number (decimal n) ≡ Some n
wide_written n small = number_written (2 ^ 128 - 1) n (omega arith) (omega arith)

-- and an item that is read as one is it
wide_read : (item : List ℕ) (n : ℕ) → wide_number item ≡ Some n → (item ≡ decimal n) × (n < 2 ^ 128)
wide_read item n e =
    let found = number_read (2 ^ 128 - 1) item n (omega arith) e in
    let small = found.1 in
    (found.0, omega arith)

-- a number from 1 on, below 2^128
pub record IsPositive (n : ℕ) : Type 0 where
  pub some : 1 ≤ n
  pub small : n < 2 ^ 128

-- is read from its decimal form, which is an item
pub positive_written : (n : ℕ) → IsPositive n →
    (positive_number (decimal n) ≡ Some n) × (is_item (decimal n) ≡ true)
positive_written n is = (
  ap (option_and_then (passing (nat_le 1))) (wide_written n is.small)
      ∙ passing_written (nat_le 1) n (le-leb 1 n is.some),
  decimal_is_item n (let s = is.small in omega arith),
)

-- and an item that is read as one is it
pub positive_read : (item : List ℕ) (n : ℕ) → positive_number item ≡ Some n →
    (item ≡ decimal n) × IsPositive n
positive_read item n e =
    let step = and_then_read (wide_number item) (passing (nat_le 1)) n e in
    let tested = passing_read (nat_le 1) step.0 n step.2 in
    let found = wide_read item n (step.1 ∙ ap Some tested.0) in
    (found.0, record { some = leb-true 1 n tested.1; small = found.1 })

-- the two sums of a table of this weight
pub record AreSums (weight : ℕ) (sums : ℕ × ℕ) : Type 0 where
  pub low : weight ≤ sums.0
  pub high : sums.0 ≤ sums.1
  pub small : sums.1 < 2 ^ 128

-- a digit is no `/`
no_slash : (b : ℕ) → is_ascii_digit b ≡ true → (b == 47) ≡ false
no_slash b e = grind (arith, nat_tests, e)

-- so a decimal form has none
decimal_lacks : (n : ℕ) → n < 10 ^ 64 → Lacks 47 (decimal n)
decimal_lacks n small i c m =
    no_slash _ (AllPass-from_list_all is_ascii_digit (decimal n)
    (numeral_digits (decimal n) (decimal_is_numeral n small)) i c m)

-- the two decimal forms of a fraction are cut again
fraction_cut : (sums : ℕ × ℕ) → sums.0 < 10 ^ 64 → sums.1 < 10 ^ 64 →
    pieces 47 (fraction_item sums) ≡ decimal sums.0 ∷ decimal sums.1 ∷ []
fraction_cut sums first second =
    pieces_again 47 (decimal sums.0 ∷ decimal sums.1 ∷ []) (λ n. cc)
    (All-from_recursion (Lacks 47) (decimal sums.0 ∷ decimal sums.1 ∷ [])
    (decimal_lacks sums.0 first, (decimal_lacks sums.1 second, tt)))

-- two numbers that are there
both_there : (first second : Option ℕ) (a b : ℕ) → first ≡ Some a → second ≡ Some b →
    both first second ≡ Some (a, b)
both_there first second a b ea eb =
    ap (λ o. both o second) ea ∙ ap (λ o. both (Some a) o) eb

-- two numbers that were both there
both_read : (first second : Option ℕ) (sums : ℕ × ℕ) → both first second ≡ Some sums →
    (first ≡ Some sums.0) × (second ≡ Some sums.1)
both_read None second sums e = absurd cc
both_read (Some a) None sums e = absurd cc
both_read (Some a) (Some b) sums e =
    let same : (a, b) ≡ sums = cc in
    (ap (λ (p : ℕ × ℕ). Some p.0) same, ap (λ (p : ℕ × ℕ). Some p.1) same)

-- more than two pieces aren't two numbers
pub two_numbers-more : (all : List (List ℕ)) (first second : List ℕ) (others : List (List ℕ)) →
    all ≡ first ∷ second ∷ others → 0 < length others → two_numbers all ≡ None
two_numbers-more all first second [] e l = absurd (omega arith)
two_numbers-more all first second (third ∷ others) e l = ap two_numbers e

-- two sums pass the test
sums_pass : (weight : ℕ) (sums : ℕ × ℕ) → AreSums weight sums → are_sums weight sums ≡ true
sums_pass weight sums is =
    ap (λ t. t && nat_le sums.0 sums.1) (le-leb weight sums.0 is.low)
    ∙ le-leb sums.0 sums.1 is.high

-- a fraction is an item
fraction_is_item : (sums : ℕ × ℕ) → sums.0 < 10 ^ 64 → sums.1 < 10 ^ 64 →
    is_item (fraction_item sums) ≡ true
fraction_is_item sums first second =
    list_all-append is_item_byte (decimal sums.0) (47 ∷ decimal sums.1)
    ∙ ap (λ t. t && is_item (47 ∷ decimal sums.1)) (decimal_is_item sums.0 first)
    ∙ decimal_is_item sums.1 second

-- the two sums are read from their fraction, which is an item
pub sums_written : (weight : ℕ) (sums : ℕ × ℕ) → AreSums weight sums →
    (sums_of weight (fraction_item sums) ≡ Some sums) × (is_item (fraction_item sums) ≡ true)
sums_written weight sums is =
    let high = is.high in
    let small = is.small in (
      ap (λ list. option_and_then (passing (are_sums weight)) (two_numbers list))
          (fraction_cut sums (omega arith) (omega arith))
          ∙ ap (option_and_then (passing (are_sums weight)))
          (both_there (wide_number (decimal sums.0)) (wide_number (decimal sums.1)) sums.0 sums.1
          (wide_written sums.0 (omega arith)) (wide_written sums.1 small))
          ∙ passing_written (are_sums weight) sums (sums_pass weight sums is),
      fraction_is_item sums (omega arith) (omega arith),
    )

-- pieces that are two numbers are their decimal forms
two_read : (list : List (List ℕ)) (sums : ℕ × ℕ) → two_numbers list ≡ Some sums →
    (list ≡ decimal sums.0 ∷ decimal sums.1 ∷ []) × (sums.1 < 2 ^ 128)
two_read [] sums e = absurd cc
two_read (below ∷ []) sums e = absurd cc
two_read (below ∷ whole ∷ next ∷ others) sums e = absurd cc
two_read (below ∷ whole ∷ []) sums e =
    let there = both_read (wide_number below) (wide_number whole) sums e in
    let first = wide_read below sums.0 there.0 in
    let second = wide_read whole sums.1 there.1 in
    (ap (λ b. b ∷ whole ∷ []) first.0 ∙ ap (λ w. decimal sums.0 ∷ w ∷ []) second.0, second.1)

-- an item that is read as two sums is their fraction
pub sums_read : (weight : ℕ) (item : List ℕ) (sums : ℕ × ℕ) → sums_of weight item ≡ Some sums →
    (item ≡ fraction_item sums) × AreSums weight sums
sums_read weight item sums e =
    let step = and_then_read (two_numbers (pieces 47 item)) (passing (are_sums weight)) sums e in
    let tested = passing_read (are_sums weight) step.0 sums step.2 in
    let found = two_read (pieces 47 item) sums (step.1 ∙ ap Some tested.0) in
    let pass = and_parts (nat_le weight sums.0) (nat_le sums.0 sums.1) tested.1 in (
      sym (join_with_byte-slice_split 47 item) ∙ ap (join_with_byte 47) found.0,
      record {
        low = leb-true weight sums.0 pass.0;
        high = leb-true sums.0 sums.1 pass.1;
        small = found.1;
      },
    )

-- a digit is a byte of an item
digit_byte : (m : ℕ) → is_item_byte (48 + m) ≡ true
digit_byte m = grind (arith, nat_tests)

-- so digits are an item
digits_are_item : (k n : ℕ) → is_item (digits k n) ≡ true
unfolding digits
digits_are_item zero n = refl
digits_are_item (suc k) n =
    list_all-append is_item_byte (digits k (n / 10)) ((48 + n % 10) ∷ [])
    ∙ ap (λ t. t && is_item ((48 + n % 10) ∷ [])) (digits_are_item k (n / 10))
    ∙ ap (λ t. t && true) (digit_byte (n % 10))

-- and decimals are one
pub decimals_are_item : (below whole : ℕ) → is_item (decimals_of below whole) ≡ true
decimals_are_item below whole = by (below == whole)
  where
    by : (t : Bool) → is_item (cond t (codes "1.000000")
        (codes "0." ++ digits 6 (below * 10 ^ 6 / whole))) ≡ true
    by true = refl
    by false = digits_are_item 6 (below * 10 ^ 6 / whole)
