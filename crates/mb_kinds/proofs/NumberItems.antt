-- Entries of a matrix as items of a line, written and read.
use Rattle.std.proofs.Common.{All, Bool, List, None, Option, Some, [], ap, arith, cond, false, map, nat_le, pos, refl, subst, true, unsigned_abs, ℕ, ℤ, ◌-◌, ◌<◌, ◌^◌, ◌∙◌, ◌∷◌, ◌≡◌, ◌≤◌}
use Rattle.std.proofs.lemmas.Bool.Decides.{nat_tests}
use Rattle.std.specs.Fmt.{decimal, signed_decimal}
use Rattle.mb_text.proofs.NumberLists.{each_read, each_written}
use Rattle.mb_text.proofs.SpellingLaws.{decimal_is_signed, signed_is_decimal}
use Rattle.mb_text.specs.Plain.{each_of, plain_signed_of, size_at_most}

-- an entry up to 1,000 is read from its decimal form
entry_written : (n : ℕ) → n ≤ 1000 →
    size_at_most (2 ^ 31 - 1) (plain_signed_of (decimal n)) ≡ Some (pos n)
entry_written n small =
    ap (size_at_most (2 ^ 31 - 1)) (decimal_is_signed (pos n) (omega arith))
    ∙ ap (λ t. cond t (Some (pos n)) None) (within n small)
  where
    within : (n : ℕ) → n ≤ 1000 → nat_le n (2 ^ 31 - 1) ≡ true
    within n small = grind (arith, nat_tests, small)

-- and an item that is read as an entry is its decimal form
entry_read : (item : List ℕ) (z : ℤ) →
    size_at_most (2 ^ 31 - 1) (plain_signed_of item) ≡ Some z → (item ≡ signed_decimal z) × Unit {0}
entry_read item z e = by (plain_signed_of item) refl e
  where
    known : (y : ℤ) (t : Bool) → nat_le (unsigned_abs y) (2 ^ 31 - 1) ≡ t →
        plain_signed_of item ≡ Some y → cond t (Some y) None ≡ Some z →
        (item ≡ signed_decimal z) × Unit {0}
    known y false es ey f = absurd cc
    known y true es ey f =
        let same : y ≡ z = cc in
        let small : unsigned_abs y < 2 ^ 31 = grind (arith, nat_tests, es) in
        (signed_is_decimal item y (omega arith) ey ∙ ap signed_decimal same, tt)

    by : (number : Option ℤ) → plain_signed_of item ≡ number →
        size_at_most (2 ^ 31 - 1) number ≡ Some z → (item ≡ signed_decimal z) × Unit {0}
    by None ey f = absurd cc
    by (Some y) ey f = known y (nat_le (unsigned_abs y) (2 ^ 31 - 1)) refl ey f

-- entries are read from their decimal forms
pub entries_written : (row : List ℕ) → All (λ n. n ≤ 1000) row →
    each_of (λ item. size_at_most (2 ^ 31 - 1) (plain_signed_of item)) (map decimal row)
    ≡ Some (map pos row)
entries_written row small =
    each_written (λ item. size_at_most (2 ^ 31 - 1) (plain_signed_of item)) decimal pos row
    (λ k d l. entry_written _ (small k d l))

-- and items that are read as entries are their decimal forms
pub entries_read : (list : List (List ℕ)) (row : List ℤ) →
    each_of (λ item. size_at_most (2 ^ 31 - 1) (plain_signed_of item)) list ≡ Some row →
    list ≡ map signed_decimal row
entries_read list row e =
    (each_read (λ item. size_at_most (2 ^ 31 - 1) (plain_signed_of item)) signed_decimal
    (λ _. Unit {0}) entry_read list row e).0
