-- The pairs of rules, in turn.
use Rattle.std.proofs.Common.{List, Some, [], ap, append-nil, append_assoc, arith, inl, inr, length, map, refl, slice_get, suc, sym, true, zero, ℕ, ◌++◌, ◌+◌, ◌<◌, ◌∙◌, ◌∷◌, ◌≡◌, ◌≤◌, ◌⊎◌}
use Rattle.std.proofs.lemmas.List.{map-append}
use Rattle.std.specs.List.{filter, range_with_len}
use Rattle.mb_checker.proofs.Turns.{range-front, range-more, turn}
use Rattle.mb_checker.specs.loops.Joined.{pairs_until, share}
use Rattle.mb_order.specs.Peak.{pairs_below, shared_pairs}
use Rattle.mb_order.specs.Rewriting.{Rule}

-- the pair of a number and j
abbrev pub with : ℕ → ℕ → ℕ × ℕ
with j i = (i, j)

-- the pairs before the next one
pub until-more : (i j : ℕ) → pairs_until (i + 1) j ≡ pairs_until i j ++ (with j i ∷ [])
until-more i j =
    let e : 0 + i ≡ i = omega arith in
    ap (λ l. pairs_below j ++ map (with j) l) (range-more 0 i)
    ∙ ap (λ l. pairs_below j ++ l) (map-append (with j) (range_with_len 0 i) ((0 + i) ∷ []))
    ∙ ap (λ k. pairs_below j ++ (map (with j) (range_with_len 0 i) ++ (with j k ∷ []))) e
    ∙ sym (append_assoc (pairs_below j) (map (with j) (range_with_len 0 i)) (with j i ∷ []))

-- a row's end is the next row's beginning
pub until-row : (j : ℕ) → pairs_until j j ≡ pairs_until 0 (j + 1)
unfolding pairs_below
until-row j =
    let e : suc j ≡ j + 1 = omega arith in
    sym (append-nil (pairs_below (suc j))) ∙ ap (λ n. pairs_below n ++ []) e

-- no pair is before the first
pub until-none : pairs_until 0 0 ≡ []
unfolding pairs_below
until-none = refl

-- all are before the first of a row that isn't there
pub until-all : (n : ℕ) → pairs_until 0 n ≡ pairs_below n
until-all n = append-nil (pairs_below n)

-- all pairs begin with those before one
until-front : (n i j : ℕ) → i ≤ j → j < n → (rest : List (ℕ × ℕ))
    × (pairs_below n ≡ pairs_until i j ++ rest)
unfolding pairs_below
until-front zero i j h l = absurd (omega arith)
until-front (suc n) i j h l =
    let cases : (j < n) ⊎ (j ≡ n) = grind arith in
    elim cases [
      | inl m ↦ (
          let r = until-front n i j h m in
          let last = map (with n) (range_with_len 0 n) in
          (r.0 ++ last, ap (λ l. l ++ last) r.1 ∙ append_assoc (pairs_until i j) r.0 last))
      | inr e ↦ (
          let s = range-front n i (omega arith) in
          let first = map (with n) (range_with_len 0 i) in (
            map (with n) s.0,
            ap (λ l. pairs_below n ++ map (with n) l) s.1
                ∙ ap (λ l. pairs_below n ++ l) (map-append (with n) (range_with_len 0 i) s.0)
                ∙ sym (append_assoc (pairs_below n) first (map (with n) s.0))
                ∙ ap (λ k. pairs_until i k ++ map (with n) s.0) (sym e),
          ))
    ]

-- after the pairs before it, a pair that shares a symbol takes its turn
pub pair-turn : (rules : List Rule) (i j : ℕ) → i < j → j < length rules →
    share rules (i, j) ≡ true →
    slice_get (shared_pairs rules) (length (filter (share rules) (pairs_until i j)))
    ≡ Some (with j i)
pair-turn rules i j h l e =
    let r = until-front (length rules) (i + 1) j (omega arith) l in
    let all : pairs_below (length rules) ≡ pairs_until i j ++ (with j i ∷ r.0) =
    r.1 ∙ ap (λ l. l ++ r.0) (until-more i j)
    ∙ append_assoc (pairs_until i j) (with j i ∷ []) r.0 in
    ap (λ l. slice_get (filter (share rules) l)
    (length (filter (share rules) (pairs_until i j)))) all
    ∙ turn (share rules) (pairs_until i j) (with j i) r.0 e
