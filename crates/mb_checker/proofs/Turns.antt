-- What a test keeps of a list, element by element.
use Rattle.std.proofs.Common.{Bool, List, Some, [], ap, append-nil, append_assoc, arith, cond, false, inl, inr, length, length-append, slice_get, suc, sym, true, zero, ℕ, ◌++◌, ◌+◌, ◌∙◌, ◌∷◌, ◌≡◌, ◌≤◌, ◌⊎◌}
use Rattle.std.specs.List.{filter, range_with_len}
use Rattle.mb_tables.proofs.ListLaws.{filter-append, get-middle}

module _ {X : Type 0} (test : X → Bool) (before : List X) (x : X) where
  -- after those before it that are kept, an element that is kept takes its turn
  pub turn : (rest : List X) → test x ≡ true →
      slice_get (filter test (before ++ (x ∷ rest))) (length (filter test before)) ≡ Some x
  turn rest e =
      ap (λ l. slice_get l (length (filter test before)))
      (filter-append test before (x ∷ rest)
      ∙ ap (λ t. filter test before ++ cond t (x ∷ filter test rest) (filter test rest)) e)
      ∙ get-middle (filter test before) x (filter test rest)

  -- one that is kept counts
  pub counts : test x ≡ true →
      length (filter test (before ++ (x ∷ []))) ≡ length (filter test before) + 1
  counts e =
      ap length (filter-append test before (x ∷ [])
      ∙ ap (λ t. filter test before ++ cond t (x ∷ []) []) e)
      ∙ length-append (filter test before) (x ∷ [])

  -- one that isn't doesn't
  pub passes : test x ≡ false →
      length (filter test (before ++ (x ∷ []))) ≡ length (filter test before)
  passes e =
      ap length (filter-append test before (x ∷ [])
      ∙ ap (λ t. filter test before ++ cond t (x ∷ []) []) e
      ∙ append-nil (filter test before))

-- the numbers below one more
pub range-more : (a n : ℕ) → range_with_len a (n + 1) ≡ range_with_len a n ++ ((a + n) ∷ [])
range-more a zero = let e : a ≡ a + 0 = omega arith in ap (λ k. k ∷ []) e
range-more a (suc n) =
    let e : a + 1 + n ≡ a + suc n = omega arith in
    let f : suc n + 1 ≡ suc (n + 1) = omega arith in
    ap (range_with_len a) f ∙ ap (λ l. a ∷ l) (range-more (a + 1) n)
    ∙ ap (λ k. a ∷ (range_with_len (a + 1) n ++ (k ∷ []))) e

-- the numbers below another begin with those below one
pub range-front : (n i : ℕ) → i ≤ n → (rest : List ℕ)
    × (range_with_len 0 n ≡ range_with_len 0 i ++ rest)
range-front zero i h = let e : i ≡ 0 = omega arith in (
  [],
  ap (range_with_len 0) (sym e)
      ∙ sym (append-nil (range_with_len 0 i)),
)
range-front (suc n) i h =
    let cases : (i ≤ n) ⊎ (i ≡ suc n) = grind arith in
    elim cases [
      | inl l ↦ (
          let r = range-front n i l in
          let e : suc n ≡ n + 1 = omega arith in (
            r.0 ++ ((0 + n) ∷ []),
            ap (range_with_len 0) e ∙ range-more 0 n ∙ ap (λ l. l ++ ((0 + n) ∷ [])) r.1
                ∙ append_assoc (range_with_len 0 i) r.0 ((0 + n) ∷ []),
          ))
      | inr e ↦ ([], ap (range_with_len 0) (sym e) ∙ sym (append-nil (range_with_len 0 i)))
    ]
