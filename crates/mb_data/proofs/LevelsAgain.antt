-- The levels of all combinations in order, by first appearance, are the levels.
use Rattle.std.proofs.Common.{Bool, List, Some, [], ap, arith, false, get_or, inl, inr, length, min, refl, suc, sym, take, true, zero, ℕ, ◌%◌, ◌*◌, ◌+◌, ◌/◌, ◌<◌, ◌∙◌, ◌≡◌, ◌≤◌, ◌⊎◌}
use Rattle.std.proofs.Math.Dec.{ltb}
use Rattle.std.proofs.Math.Nat.{div-add-mod, div-eq_of_lt, min-eq_left, min-eq_right, min-le_left, mod-eq_of_lt, mod-lt}
use Rattle.std.proofs.Math.Seq.{take-suc}
use Rattle.std.proofs.lemmas.Bool.{cases_Bool, ltb-false, ltb-true}
use Rattle.std.proofs.lemmas.List.{get_or-take, length-take-le}
use Rattle.std.proofs.lemmas.Nat.{div-mul-add}
use Rattle.std.proofs.lemmas.Option.{slice_get-get_or, slice_get_within}
use Rattle.std.specs.List.{list_any, slice_get}
use Rattle.std.specs.Str.{bytes_eq}
use Rattle.mb_data.specs.Levels.{AreApart, with_name}
use Rattle.mb_data.proofs.NamePlaces.{any_place, place_any}

-- how many levels of a factor the first combinations show
abbrev pub seen : ℕ → ℕ → ℕ → ℕ
seen size stride zero = 0
seen size stride (suc k) = min size (suc (k / stride))

-- one combination more: its quotient stays or goes up by one
next_quotient : (k stride : ℕ) → 0 < stride
    → (suc k / stride ≡ k / stride) ⊎ (suc k / stride ≡ suc (k / stride))
next_quotient k stride some = elim (up_to (k % stride) (mod-lt k some)) [
  | inl less ↦ inl
      (ap (λ n. n / stride) (let e : suc k ≡ k / stride * stride + suc (k % stride) =
      omega (arith, div-add-mod k stride, same) in e)
      ∙ div-mul-add (k / stride) stride (suc (k % stride)) less)
  | inr last ↦ inr
      (ap (λ n. n / stride) (let e : suc k ≡ suc (k / stride) * stride + 0 =
      omega (arith, div-add-mod k stride, same, last, more) in e)
      ∙ div-mul-add (suc (k / stride)) stride 0 some)
]
  where
    same : stride * (k / stride) ≡ k / stride * stride
    same = grind (arith)

    more : suc (k / stride) * stride ≡ k / stride * stride + stride
    more = grind (arith)

    up_to : (r : ℕ) → r < stride → (suc r < stride) ⊎ (suc r ≡ stride)
    up_to r below = grind (arith, below)

-- the level of a combination is the next one, or it was seen
step : (size stride k : ℕ) → 0 < size → 0 < stride
    → ((k / stride % size < seen size stride k) × (seen size stride (suc k) ≡ seen size stride k))
    ⊎ ((k / stride % size ≡ seen size stride k)
    × (seen size stride (suc k) ≡ suc (seen size stride k)) × (seen size stride k < size))
step size stride zero some wide =
    let none : 0 / stride ≡ 0 = div-eq_of_lt wide in
    let first : 0 / stride % size ≡ 0 = ap (λ n. n % size) none ∙ mod-eq_of_lt some in
    let one : min size (suc (0 / stride)) ≡ 1 = ap (λ n. min size (suc n)) none
    ∙ min-eq_right some in
    inr (first, one, some)
step size stride (suc j) some wide = elim (which (ltb (suc j / stride) size) refl) [
  | inl below ↦
      let digit : suc j / stride % size ≡ suc j / stride = mod-eq_of_lt below in
      let after : min size (suc (suc j / stride)) ≡ suc (suc j / stride) = min-eq_right below in
      elim (next_quotient j stride wide) [
        | inl same ↦
            let before : min size (suc (j / stride)) ≡ suc (suc j / stride) =
            ap (λ n. min size (suc n)) (sym same) ∙ after in
            inl (omega (arith, digit, before), after ∙ sym before)
        | inr more ↦
            let before : min size (suc (j / stride)) ≡ suc j / stride =
            ap (λ n. min size n) (sym more) ∙ min-eq_right (omega (arith, below)) in
            inr (
              digit ∙ sym before,
              after ∙ ap (λ n. suc n) (sym before),
              omega (arith, before, below),
            )
      ]
  | inr past ↦
      let near : suc j / stride ≤ suc (j / stride) = elim (next_quotient j stride wide) [
        | inl same ↦ omega (arith, same)
        | inr more ↦ omega (arith, more)
      ] in
      let before : min size (suc (j / stride)) ≡ size = min-eq_left (omega (arith, past, near)) in
      let after : min size (suc (suc j / stride)) ≡ size = min-eq_left (omega (arith, past)) in
      inl (omega (arith, mod-lt (suc j / stride) some, before), after ∙ sym before)
]
  where
    which : (b : Bool) → ltb (suc j / stride) size ≡ b → (suc j / stride < size)
        ⊎ (size ≤ suc j / stride)
    which true is = inl (ltb-true (suc j / stride) size is)
    which false is = inr (ltb-false (suc j / stride) size is)

-- an element of the first ones
taken : (names : List (List ℕ)) (m k : ℕ) → k < m → m ≤ length names
    → slice_get (take m names) k ≡ Some (get_or names k [])
taken names m k below within =
    let long : length (take m names) ≡ m = length-take-le m names within in
    slice_get-get_or (take m names) k [] (omega (arith, long, below))
    ∙ ap (λ (n : List ℕ). Some n) (get_or-take m names k [] below)

-- a name that was seen changes nothing, and the next one is added
name_seen : (names : List (List ℕ)) (m k : ℕ) → k < m → m ≤ length names
    → with_name (take m names) (get_or names k []) ≡ take m names
name_seen names m k below within =
    rw (place_any (take m names) k (get_or names k []) (taken names m k below within)) refl

name_next : (names : List (List ℕ)) (m : ℕ) → AreApart names → m < length names
    → with_name (take m names) (get_or names m []) ≡ take (suc m) names
name_next names m apart within =
    elim (cases_Bool (list_any (bytes_eq (get_or names m [])) (take m names))) [
      | inl there ↦
          let at = any_place (take m names) (get_or names m []) there in
          let below : at.0 < m =
          omega (
            arith,
            slice_get_within (take m names) at.0 (get_or names m []) at.1,
            length-take-le m names (let e : m ≤ length names = omega (arith, within) in e),
          ) in
          let same : get_or names at.0 [] ≡ get_or names m [] =
          cc (sym (taken names m at.0 below (omega (arith, within))) ∙ at.1) in
          let place : at.0 ≡ m = apart at.0 m (get_or names m [])
          (slice_get-get_or names at.0 [] (omega (arith, below, within))
          ∙ ap (λ (n : List ℕ). Some n) same)
          (slice_get-get_or names m [] within) in
          absurd (omega (arith, place, below))
      | inr new ↦ rw new (sym (take-suc names m [] within))
    ]

-- the levels of a factor after one combination more
pub level_more : (names : List (List ℕ)) (stride k : ℕ) → AreApart names → 0 < length names
    → 0 < stride
    → with_name (take (seen (length names) stride k) names)
    (get_or names (k / stride % length names) [])
    ≡ take (seen (length names) stride (suc k)) names
level_more names stride k apart some wide = elim (step (length names) stride k some wide) [
  | inl old ↦
      name_seen names (seen (length names) stride k) (k / stride % length names) old.0
      (most (length names) stride k)
      ∙ ap (λ n. take n names) (sym old.1)
  | inr new ↦
      ap (λ n. with_name (take (seen (length names) stride k) names) (get_or names n [])) new.0
      ∙ name_next names (seen (length names) stride k) apart new.2
      ∙ ap (λ n. take n names) (sym new.1)
]
  where
    most : (size stride k : ℕ) → seen size stride k ≤ size
    most size stride zero = omega arith
    most size stride (suc k) = min-le_left size (suc (k / stride))
