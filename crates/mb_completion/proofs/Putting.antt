-- A rule put in its place among rules with ascending left sides.
use Rattle.std.proofs.Common.{List, [], ap, arith, drop, get_or, inl, inr, length, refl, suc, take, zero, ℕ, ◌++◌, ◌<◌, ◌∙◌, ◌∷◌, ◌≡◌, ◌≤◌, ◌⊎◌}
use Rattle.std.specs.Cmp.{IsTotalOrder}
use Rattle.std.specs.Ordering.{ordering_reverse}
use Rattle.std.specs.declared.cmp.Ordering.TheVariants.{Equal, Greater, Less}
use Rattle.std.specs.declared.cmp.Ordering.{Ordering}
use Rattle.mb_completion.specs.loops.Kept.{put, put_at}
use Rattle.mb_order.specs.Monomial.{Monomial}
use Rattle.mb_order.specs.Rewriting.{Rule}
use Rattle.mb_rules.proofs.RulesInCode.{no_rule}
use Rattle.mb_rules.specs.ReducedBasis.{LeftsAscend}
use Rattle.mb_tables.specs.Lists.{In}

module _ (compare : Monomial → Monomial → Ordering) where
  -- the code's place
  pub put-before : (rule : Rule) (xs : List Rule) (p : ℕ) → p ≤ length xs →
      ((i : ℕ) → i < p → compare (get_or xs i no_rule).0 rule.0 ≡ Less) →
      (p < length xs → compare (get_or xs p no_rule).0 rule.0 ≡ Greater) →
      put compare rule xs ≡ take p xs ++ (rule ∷ drop p xs)
  unfolding put
  put-before rule [] zero h l g = refl
  put-before rule [] (suc p) h l g = absurd (omega arith)
  put-before rule (x ∷ xs) zero h l g =
      ap (λ o. put_at o rule x xs (put compare rule xs)) (g (omega arith))
  put-before rule (x ∷ xs) (suc p) h l g =
      ap (λ o. put_at o rule x xs (put compare rule xs)) (l 0 (omega arith))
      ∙ ap (λ r. x ∷ r)
      (put-before rule xs p (omega arith) (λ i k. l (suc i) (omega arith)) (λ k. g (omega arith)))

  -- where a left side is there, the list stays
  pub put-there : (rule : Rule) (xs : List Rule) (p : ℕ) → p < length xs →
      ((i : ℕ) → i < p → compare (get_or xs i no_rule).0 rule.0 ≡ Less) →
      compare (get_or xs p no_rule).0 rule.0 ≡ Equal → put compare rule xs ≡ xs
  unfolding put
  put-there rule [] p h l e = absurd (omega arith)
  put-there rule (x ∷ xs) zero h l e = ap (λ o. put_at o rule x xs (put compare rule xs)) e
  put-there rule (x ∷ xs) (suc p) h l e =
      ap (λ o. put_at o rule x xs (put compare rule xs)) (l 0 (omega arith))
      ∙ ap (λ r. x ∷ r) (put-there rule xs p (omega arith) (λ i k. l (suc i) (omega arith)) e)

  -- what is in it
  pub put-only : (rule : Rule) (xs : List Rule) (r : Rule) → In r (put compare rule xs) → In r xs
      ⊎ (r ≡ rule)
  unfolding put In
  put-only rule [] r (inl e) = inr e
  put-only rule [] r (inr h) = absurd h
  put-only rule (x ∷ xs) r h = by (compare x.0 rule.0) (put-only rule xs r) h
    where
      by : (o : Ordering) → (In r (put compare rule xs) → In r xs ⊎ (r ≡ rule)) →
          In r (put_at o rule x xs (put compare rule xs)) → In r (x ∷ xs) ⊎ (r ≡ rule)
      by Less f (inl e) = inl (inl e)
      by Less f (inr i) = elim (f i) [ inl a ↦ inl (inr a) | inr e ↦ inr e ]
      by Equal f i = inl i
      by Greater f (inl e) = inr e
      by Greater f (inr i) = inl i

  -- what was there stays
  pub put-old : (rule : Rule) (xs : List Rule) (r : Rule) → In r xs → In r (put compare rule xs)
  unfolding put In
  put-old rule [] r h = absurd h
  put-old rule (x ∷ xs) r h = by (compare x.0 rule.0) (put-old rule xs r) h
    where
      by : (o : Ordering) → (In r xs → In r (put compare rule xs)) → In r (x ∷ xs) →
          In r (put_at o rule x xs (put compare rule xs))
      by Less f (inl e) = inl e
      by Less f (inr i) = inr (f i)
      by Equal f i = i
      by Greater f i = inr i

  -- a rule of its left side is in it
  pub put-has : (rule : Rule) (xs : List Rule) → (r : Rule) × In r (put compare rule xs)
      × ((r ≡ rule) ⊎ (In r xs × (compare r.0 rule.0 ≡ Equal)))
  unfolding put In
  put-has rule [] = (rule, inl refl, inl refl)
  put-has rule (x ∷ xs) = by (compare x.0 rule.0) refl (put-has rule xs)
    where
      by : (o : Ordering) → compare x.0 rule.0 ≡ o →
          ((r : Rule) × In r (put compare rule xs)
          × ((r ≡ rule) ⊎ (In r xs × (compare r.0 rule.0 ≡ Equal)))) →
          (r : Rule) × In r (put_at o rule x xs (put compare rule xs))
          × ((r ≡ rule) ⊎ (In r (x ∷ xs) × (compare r.0 rule.0 ≡ Equal)))
      by Less e f = (f.0, inr f.1, elim f.2 [ inl a ↦ inl a | inr a ↦ inr (inr a.0, a.1) ])
      by Equal e f = (x, inl refl, inr (inl refl, e))
      by Greater e f = (rule, inl refl, inl refl)

  module _ (total : IsTotalOrder compare) where
    pub put-ascends : (rule : Rule) (xs : List Rule) → LeftsAscend compare xs →
        LeftsAscend compare (put compare rule xs)
    unfolding put LeftsAscend In
    put-ascends rule [] h = ((λ later i. absurd i), tt)
    put-ascends rule (x ∷ xs) h = by (compare x.0 rule.0) refl (put-ascends rule xs h.1)
      where
        by : (o : Ordering) → compare x.0 rule.0 ≡ o → LeftsAscend compare (put compare rule xs) →
            LeftsAscend compare (put_at o rule x xs (put compare rule xs))
        by Less e f = (
          (λ later i. elim (put-only rule xs later i) [
            | inl a ↦ h.0 later a
            | inr g ↦
                ap (λ (r : Rule). compare x.0 r.0) g ∙ e
          ]),
          f,
        )
        by Equal e f = h
        by Greater e f =
            let low : compare rule.0 x.0 ≡ Less = total.antisymm rule.0 x.0
            ∙ ap ordering_reverse e in (
              (λ later i. elim i [
                | inl g ↦ ap (λ (r : Rule). compare rule.0 r.0) g ∙ low
                | inr j ↦
                    total.trans rule.0 x.0 later.0 low (h.0 later j)
              ]),
              h,
            )
