-- Numbers as items of a line, written and read.
use Rattle.std.proofs.Common.{None, Option, Some, ap, arith, cond, List, nat_le, pos, refl, unsigned_abs, ℕ, ℤ, ◌-◌, ◌<◌, ◌^◌, ◌∙◌, ◌≡◌, ◌≤◌, ◌≢◌, negsuc, suc, zero}
use Rattle.std.proofs.lemmas.Bool.{le-leb, leb-true}
use Rattle.std.proofs.lemmas.Int.{ints}
use Rattle.std.proofs.lemmas.Slice.Eq.{bytes_eq-Decides}
use Rattle.std.specs.Fmt.{decimal, signed_decimal}
use Rattle.std.specs.Str.{bytes_eq}
use Rattle.mb_certificate.specs.Certificate.{IsSigned}
use Rattle.mb_certificate.specs.CertificateText.{entry, signed_number, unless_zero}
use Rattle.mb_certificate.specs.Reading.{word}
use Rattle.mb_tables.specs.Entries.{IsEntry}
use Rattle.mb_text.proofs.NumeralItems.{let_through, number_read, number_written}
use Rattle.mb_text.proofs.SpellingLaws.{decimal_is_signed, signed_is_decimal}
use Rattle.mb_text.specs.Plain.{at_least, at_most, number_within, plain_of, plain_signed_of, size_at_most}

-- a number with a sign is read from its decimal form
signed_written : (highest : ℕ) (z : ℤ) → highest < 10 ^ 64 → unsigned_abs z ≤ highest →
    size_at_most highest (plain_signed_of (signed_decimal z)) ≡ Some z
signed_written highest z far small =
    ap (size_at_most highest) (decimal_is_signed z (omega arith))
    ∙ ap (λ t. cond t (Some z) None) (le-leb (unsigned_abs z) highest small)

-- and an item that is read as one is its decimal form
signed_read : (highest : ℕ) (item : List ℕ) (z : ℤ) → highest < 10 ^ 64 →
    size_at_most highest (plain_signed_of item) ≡ Some z →
    (item ≡ signed_decimal z) × (unsigned_abs z ≤ highest)
signed_read highest item z far e = by (plain_signed_of item) refl e
  where
    by : (number : Option ℤ) → plain_signed_of item ≡ number →
        size_at_most highest number ≡ Some z →
        (item ≡ signed_decimal z) × (unsigned_abs z ≤ highest)
    by None ey f = absurd cc
    by (Some y) ey f =
        let passed = let_through (nat_le (unsigned_abs y) highest) y z f in
        let small = leb-true (unsigned_abs y) highest passed.0 in
        let same : unsigned_abs y ≡ unsigned_abs z = ap unsigned_abs passed.1 in (
          signed_is_decimal item z (omega arith) (ey ∙ ap Some passed.1),
          omega arith,
        )

-- an entry is of a size below 2^31
pub entry_small : (z : ℤ) → IsEntry z → unsigned_abs z ≤ 2 ^ 31 - 1
entry_small z is = grind (arith, ints, is.0, is.1)

-- and what is so is an entry
small_entry : (z : ℤ) → unsigned_abs z ≤ 2 ^ 31 - 1 → IsEntry z
small_entry z small = (grind (arith, ints, small), grind (arith, ints, small))

-- an entry of a move is read from its decimal form
pub entry_written : (z : ℤ) → IsEntry z → entry (signed_decimal z) ≡ Some z
entry_written z is = signed_written (2 ^ 31 - 1) z (omega arith) (entry_small z is)

-- and an item that is read as one is it
pub entry_read : (item : List ℕ) (z : ℤ) → entry item ≡ Some z →
    (item ≡ signed_decimal z) × IsEntry z
entry_read item z e =
    let read = signed_read (2 ^ 31 - 1) item z (omega arith) e in (read.0, small_entry z read.1)

-- a number that isn't 0 is let through
some_number : (z : ℤ) → z ≢ pos 0 → unless_zero (Some z) ≡ Some z
some_number (pos zero) some = absurd (some refl)
some_number (pos (suc n)) some = refl
some_number (negsuc n) some = refl

-- and what is let through isn't 0
not_zero : (number : Option ℤ) (z : ℤ) → unless_zero number ≡ Some z →
    (number ≡ Some z) × (z ≢ pos 0)
not_zero None z e = absurd cc
not_zero (Some (pos zero)) z e = absurd cc
not_zero (Some (pos (suc n))) z e = (e, λ f. cc)
not_zero (Some (negsuc n)) z e = (e, λ f. cc)

-- the number of a move with a sign is read from its decimal form
pub signed_number_written : (z : ℤ) → IsSigned z → signed_number (signed_decimal z) ≡ Some z
signed_number_written z is =
    let fits = is.fits in
    ap unless_zero (signed_written (2 ^ 32 - 1) z (omega arith) (omega arith))
    ∙ some_number z is.some

-- and an item that is read as one is it
pub signed_number_read : (item : List ℕ) (z : ℤ) → signed_number item ≡ Some z →
    (item ≡ signed_decimal z) × IsSigned z
signed_number_read item z e =
    let some = not_zero (size_at_most (2 ^ 32 - 1) (plain_signed_of item)) z e in
    let read = signed_read (2 ^ 32 - 1) item z (omega arith) some.0 in
    let small = read.1 in
    (read.0, record { some = some.1; fits = omega arith })

-- a number from the lowest to the highest
pub record IsWithin (lowest highest n : ℕ) : Type 0 where
  pub low : lowest ≤ n
  pub high : n ≤ highest

-- is read from its decimal form
pub within_written : (lowest highest n : ℕ) → highest < 10 ^ 64 → IsWithin lowest highest n →
    number_within lowest highest (decimal n) ≡ Some n
within_written lowest highest n far is =
    ap (at_least lowest) (number_written highest n far is.high)
    ∙ ap (λ t. cond t (Some n) None) (le-leb lowest n is.low)

-- and an item that is read as one is it
pub within_read : (lowest highest : ℕ) (item : List ℕ) (n : ℕ) → highest < 10 ^ 64 →
    number_within lowest highest item ≡ Some n → (item ≡ decimal n) × IsWithin lowest highest n
within_read lowest highest item n far e = by (at_most highest (plain_of item)) refl e
  where
    by : (number : Option ℕ) → at_most highest (plain_of item) ≡ number →
        at_least lowest number ≡ Some n → (item ≡ decimal n) × IsWithin lowest highest n
    by None em f = absurd cc
    by (Some m) em f =
        let passed = let_through (nat_le lowest m) m n f in
        let same = passed.1 in
        let low = leb-true lowest m passed.0 in
        let read = number_read highest item n far (em ∙ ap Some same) in
        (read.0, record { low = omega arith; high = read.1 })

-- a word is read from itself
pub word_written : (wanted : List ℕ) → word wanted wanted ≡ Some tt
word_written wanted = ap (λ t. cond t (Some tt) None) ((bytes_eq-Decides wanted wanted).1 refl)

-- and an item that is read as one is it
pub word_read : (wanted item : List ℕ) (x : Unit {0}) → word wanted item ≡ Some x → item ≡ wanted
word_read wanted item x e =
    (bytes_eq-Decides item wanted).0 (let_through (bytes_eq item wanted) tt x e).0
