-- Fields without the spaces around them.
use Rattle.std.proofs.Common.{List, [], ap, arith, drop, false, get_or, if◌then◌else◌, inl, inr, length, refl, reverse, suc, sym, take, true, ℕ, ◌+◌, ◌++◌, ◌<◌, ◌≤◌, ◌==◌, ◌∙◌, ◌∷◌, ◌≡◌}
use Rattle.std.proofs.Math.Seq.{drop-cons, take-suc}
use Rattle.std.proofs.lemmas.List.{drop_all, reverse-append, reverse-reverse}
use Rattle.std.proofs.lemmas.Bool.{cases_Bool}
use Rattle.mb_data.specs.CountField.{after_spaces, before_spaces}

-- a space in front is left out
pub after_space : (b : ℕ) (rest : List ℕ) → (b == 32) ≡ true
    → after_spaces (b ∷ rest) ≡ after_spaces rest
unfolding after_spaces
after_space b rest is = rw is refl

-- another byte in front ends the spaces
pub after_other : (b : ℕ) (rest : List ℕ) → (b == 32) ≡ false → after_spaces (b ∷ rest) ≡ b ∷ rest
unfolding after_spaces
after_other b rest is = rw is refl

-- from a space on
pub space_at : (field : List ℕ) (k : ℕ) → k < length field → (get_or field k 0 == 32) ≡ true
    → after_spaces (drop (k + 1) field) ≡ after_spaces (drop k field)
space_at field k within is =
    sym (ap after_spaces (drop-cons field k 0 within)
    ∙ after_space (get_or field k 0) (drop (suc k) field) is
    ∙ ap (λ n. after_spaces (drop n field)) (let e : suc k ≡ k + 1 = omega arith in e))

-- from another byte on
pub other_at : (field : List ℕ) (k : ℕ) → k < length field → (get_or field k 0 == 32) ≡ false
    → after_spaces (drop k field) ≡ drop k field
other_at field k within is =
    ap after_spaces (drop-cons field k 0 within)
    ∙ after_other (get_or field k 0) (drop (suc k) field) is
    ∙ sym (drop-cons field k 0 within)

-- a byte at the end
before_last : (field : List ℕ) (b : ℕ)
    → before_spaces (field ++ b ∷ []) ≡ reverse (after_spaces (b ∷ reverse field))
unfolding before_spaces
before_last field b = ap (λ t. reverse (after_spaces t)) (reverse-append field (b ∷ []))

-- up to a space
pub space_up_to : (field : List ℕ) (k : ℕ) → k < length field → (get_or field k 0 == 32) ≡ true
    → before_spaces (take (k + 1) field) ≡ before_spaces (take k field)
unfolding before_spaces
space_up_to field k within is =
    ap (λ n. before_spaces (take n field)) (let e : k + 1 ≡ suc k = omega arith in e)
    ∙ ap before_spaces (take-suc field k 0 within)
    ∙ before_last (take k field) (get_or field k 0)
    ∙ ap reverse (after_space (get_or field k 0) (reverse (take k field)) is)

-- up to another byte
pub other_up_to : (field : List ℕ) (k : ℕ) → k < length field → (get_or field k 0 == 32) ≡ false
    → before_spaces (take (k + 1) field) ≡ take (k + 1) field
other_up_to field k within is =
    ap (λ n. before_spaces (take n field)) (let e : k + 1 ≡ suc k = omega arith in e)
    ∙ ap before_spaces (take-suc field k 0 within)
    ∙ before_last (take k field) (get_or field k 0)
    ∙ ap reverse (after_other (get_or field k 0) (reverse (take k field)) is)
    ∙ sym (ap reverse (reverse-append (take k field) (get_or field k 0 ∷ [])))
    ∙ reverse-reverse (take k field ++ get_or field k 0 ∷ [])
    ∙ sym (take-suc field k 0 within)
    ∙ ap (λ n. take n field) (let e : suc k ≡ k + 1 = omega arith in e)

-- one byte more
pub next_up_to : (field : List ℕ) (kept k next : ℕ) → k < length field
    → (before_spaces (take k field) ≡ take kept field) × (kept ≤ k)
    → next ≡ (if get_or field k 0 == 32 then kept else k + 1)
    → (before_spaces (take (k + 1) field) ≡ take next field) × (next ≤ k + 1)
next_up_to field kept k next within so_far is = elim (cases_Bool (get_or field k 0 == 32)) [
  | inl space ↦
      let same : next ≡ kept = rw space at is in
      rw same (space_up_to field k within space ∙ so_far.0, omega (arith, so_far.1))
  | inr other ↦
      let same : next ≡ k + 1 = rw other at is in
      rw same (other_up_to field k within other, omega arith)
]

-- where nothing is left, nothing is left without spaces
pub nothing_after : (field : List ℕ) (k : ℕ) → length field ≤ k
    → after_spaces (drop k field) ≡ after_spaces field → after_spaces field ≡ []
unfolding after_spaces
nothing_after field k past same = sym same ∙ ap after_spaces (drop_all k field past)
