-- Lists of the keys of tables one step from a table.
use Rattle.std.proofs.Common.{List, [], ap, inl, inr, length, refl, subst, sym, ℕ, ℤ, ◌++◌, ◌+◌, ◌∙◌, ◌∷◌, ◌≡◌, ◌↔◌, ◌⊎◌, ⊎_elim, slice_get, Some}
use Rattle.std.proofs.lemmas.List.{map-append}
use Rattle.mb_keyed.specs.declared.needs.Need.{Need}
use Rattle.mb_keyed.specs.declared.ranked.Ranked.{Ranked}
use Rattle.mb_keyed.specs.loops.Needs.{AreNeeds, Has}
use Rattle.mb_keyed.specs.loops.Worked.{Gains, keys_in}
use Rattle.mb_matrix.specs.Key.{key_of}
use Rattle.mb_matrix.specs.declared.digit.Digit.{Digit}
use Rattle.mb_rings.proofs.PlacesBelow.{Steps, SteppedBelow, all-stepped, below-cases, below-more, below-none, some-stepped}
use Rattle.mb_rings.specs.Claimed.{IsKeyOf}
use Rattle.mb_tables.proofs.ListLaws.{In-cases, In-left, In-right}
use Rattle.mb_tables.specs.Lists.{In}
use Rattle.mb_tables.specs.Step.{Moved, OneApart}
use Rattle.mb_tables.specs.declared.sign.Sign.{Sign}

-- nothing is sought
pub gains-none : (IsSought : ℕ → Type 0) (list : List Ranked) → ((k : ℕ) → IsSought k → ⊥) →
    Gains IsSought list list
gains-none IsSought list none k =
    ((λ i. inl i), (λ h. ⊎_elim (λ i. i) (λ s. absurd (none k s)) h))

-- one key more
pub gains-one : (IsSought : ℕ → Type 0) (before after : List Ranked) (r : Ranked) →
    after ≡ before ++ r ∷ [] → IsSought r.key → ((k : ℕ) → IsSought k → k ≡ r.key) →
    Gains IsSought before after
unfolding In
gains-one IsSought before after r e is only k =
    let keys : keys_in after ≡ keys_in before ++ r.key ∷ [] =
    ap keys_in e ∙ map-append (λ (x : Ranked). x.key) before (r ∷ []) in (
      (λ i. ⊎_elim (λ j. inl j)
          (λ j. inr (⊎_elim (λ same. subst IsSought (sym same) is) (λ none. absurd none) j))
          (In-cases k (keys_in before) (r.key ∷ []) (subst (In k) keys i))),
      (λ h. subst (In k) (sym keys)
          (⊎_elim (λ j. In-left k (keys_in before) (r.key ∷ []) j)
          (λ s. In-right k (keys_in before) (r.key ∷ []) (inl (only k s))) h)),
    )

-- some keys, and then others
pub gains-then : (P Q R : ℕ → Type 0) (first second last : List Ranked) →
    ((k : ℕ) → R k ↔ (P k ⊎ Q k)) → Gains P first second → Gains Q second last →
    Gains R first last
gains-then P Q R first second last same f g k = (
  (λ i. ⊎_elim
      (λ j. ⊎_elim (λ old. inl old) (λ p. inr ((same k).1 (inl p))) ((f k).0 j))
      (λ q. inr ((same k).1 (inr q)))
      ((g k).0 i)),
  (λ h. (g k).1 (⊎_elim
      (λ old. inl ((f k).1 (inl old)))
      (λ r. ⊎_elim (λ p. inl ((f k).1 (inr p))) (λ q. inr q) ((same k).0 r))
      h)),
)

module _ (digits : List Digit) where
  -- the keys of two kinds of tables
  pub keys-both : (P Q R : List ℕ → Type 0) → ((v : List ℕ) → P v ⊎ Q v → R v) →
      ((v : List ℕ) → R v → P v ⊎ Q v) → (k : ℕ) →
      IsKeyOf digits R k ↔ (IsKeyOf digits P k ⊎ IsKeyOf digits Q k)
  keys-both P Q R to from k = (
    (λ h. ⊎_elim (λ p. inl (h.0, p, h.2)) (λ q. inr (h.0, q, h.2)) (from h.0 h.1)),
    (λ h. ⊎_elim
        (λ p. (p.0, to p.0 (inl p.1), p.2))
        (λ q. (q.0, to q.0 (inr q.1), q.2))
        h),
  )

  module _ (sign : Sign) (u : List ℕ) (move : List ℤ) (needs : List Need)
      (are : AreNeeds (length u) sign move needs) where
    -- where a step is allowed, its key is gained
    pub gains-step : (before after : List Ranked) (r : Ranked) → after ≡ before ++ r ∷ [] →
        ((v : List ℕ) → Moved sign u move v → r.key ≡ key_of digits v) → Has u needs →
        Gains (IsKeyOf digits (Moved sign u move)) before after
    gains-step before after r e key has =
        let made = are.enough u refl has in
        gains-one (IsKeyOf digits (Moved sign u move)) before after r e
        (made.0, made.1, key made.0 made.1) (λ k h. h.2 ∙ sym (key h.0 h.1))

  -- before the first move
  pub listed-none : (moves : List (List ℤ)) (u : List ℕ) (list : List Ranked) → list ≡ [] →
      Gains (IsKeyOf digits (SteppedBelow moves 0 u)) [] list
  listed-none moves u list e =
      subst (Gains (IsKeyOf digits (SteppedBelow moves 0 u)) []) (sym e)
      (gains-none (IsKeyOf digits (SteppedBelow moves 0 u)) []
      (λ k h. below-none moves (Steps u h.0) h.1))

  -- a move more is added and subtracted
  pub listed-move : (moves : List (List ℤ)) (i : ℕ) (move : List ℤ) (u : List ℕ)
      (before after : List Ranked) → slice_get moves i ≡ Some move →
      Gains (IsKeyOf digits (SteppedBelow moves i u)) [] before →
      Gains (IsKeyOf digits (λ v. Steps u v move)) before after →
      Gains (IsKeyOf digits (SteppedBelow moves (i + 1) u)) [] after
  listed-move moves i move u before after there f g =
      gains-then (IsKeyOf digits (SteppedBelow moves i u)) (IsKeyOf digits (λ v. Steps u v move))
      (IsKeyOf digits (SteppedBelow moves (i + 1) u)) [] before after
      (keys-both (SteppedBelow moves i u) (λ v. Steps u v move) (SteppedBelow moves (i + 1) u)
      (λ v k. below-more moves i move (Steps u v) there k)
      (λ v k. below-cases moves i move (Steps u v) there k)) f g

  -- all moves are tried
  pub listed-all : (moves items : List (List ℤ)) (i : ℕ) (u : List ℕ) (list : List Ranked) →
      items ≡ moves → i ≡ length items →
      Gains (IsKeyOf digits (SteppedBelow items i u)) [] list → (k : ℕ) →
      In k (keys_in list) ↔ IsKeyOf digits (OneApart moves u) k
  unfolding In
  listed-all moves items i u list e end f k = (
    (λ h. ⊎_elim (λ none. absurd none)
        (λ s. (
          s.0,
          subst (λ (all : List (List ℤ)). OneApart all u s.0) e
              (some-stepped items i u s.0 s.1),
          s.2,
        ))
        ((f k).0 h)),
    (λ h. (f k).1 (inr (
      h.0,
      subst (λ n. SteppedBelow items n u h.0) (sym end)
          (all-stepped items u h.0 (subst (λ (all : List (List ℤ)). OneApart all u h.0) (sym e)
          h.1)),
      h.2,
    ))),
  )
