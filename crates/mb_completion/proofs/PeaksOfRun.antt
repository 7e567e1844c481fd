-- The peaks of a finished run are not too heavy, and those of its kept rules are not.
use Rattle.std.proofs.Common.{Bool, List, None, Some, ap, arith, inl, inr, length, slice_get, subst, suc, sym, true, zero, ℕ, ◌++◌, ◌<◌, ◌∙◌, ◌≡◌, ◌⊎◌}
use Rattle.mb_completion.proofs.Looks.{same_pair, same_rule, shared_pairs-more}
use Rattle.mb_completion.proofs.RunEndings.{final_is, not_heavy, not_unfinished}
use Rattle.mb_completion.specs.Run.{AreLightPeaks, Finished, Runs}
use Rattle.mb_matrix.specs.Matrix.{Design}
use Rattle.mb_order.proofs.PeakLaws.{In-pairs, left-front, left-is, old_places}
use Rattle.mb_order.proofs.SymbolSets.{shares-place}
use Rattle.mb_order.specs.Peak.{left_of, pairs_below, shared_pairs}
use Rattle.mb_order.specs.Rewriting.{Rule}
use Rattle.mb_order.specs.Weight.{IsLight}
use Rattle.mb_order.specs.declared.order.Order.{Order}
use Rattle.mb_rules.specs.ReducedBasis.{IsReduction}
use Rattle.mb_tables.proofs.ListLaws.{In-filter, In-place, get-front, none-past, place-within}
use Rattle.mb_tables.proofs.VectorLaws.{at-greater, length-greater, same, shares-no}
use Rattle.mb_tables.specs.Vectors.{greater, shares}
use Rattle.std.proofs.lemmas.Bool.{true_from_ne_false}

-- the peaks of the pairs looked at are not too heavy
abbrev Looked : Design → List Rule → ℕ → Type 0
Looked matrix rules looks =
    (k : ℕ) (p : ℕ × ℕ) → k < looks → slice_get (shared_pairs rules) k ≡ Some p →
    IsLight matrix (greater (left_of rules p.0) (left_of rules p.1))

module _ (matrix : Design) (order : Order) where
  -- when all pairs are looked at, no peak is too heavy
  all_light : (rules : List Rule) (looks : ℕ) → slice_get (shared_pairs rules) looks ≡ None →
      Looked matrix rules looks → AreLightPeaks matrix rules
  all_light rules looks e h i j low high l f g s =
      let pair : ℕ × ℕ = (i, j) in
      let test : ℕ × ℕ → Bool = λ p. shares (left_of rules p.0) (left_of rules p.1) in
      let a = left-is rules i low f in
      let b = left-is rules j high g in
      let passes : test pair ≡ true = ap (λ x. shares x (left_of rules j)) a ∙ ap (shares low.0) b
      ∙ s in
      let listed =
      In-filter test pair (pairs_below (length rules))
      (In-pairs (length rules) i j l (place-within rules j high g)) passes in
      let p = In-place (shared_pairs rules) pair listed in
      subst (λ x. IsLight matrix (greater x high.0)) a
      (subst (λ x. IsLight matrix (greater (left_of rules i) x)) b
      (h p.0 pair (none-past (shared_pairs rules) looks p.0 pair e p.1) p.1))

  -- one more look, and what it adds
  more_light : (rules more : List Rule) (looks i j : ℕ) (low high : Rule) →
      slice_get (shared_pairs rules) looks ≡ Some (let p : ℕ × ℕ = (i, j) in p) →
      slice_get rules i ≡ Some low → slice_get rules j ≡ Some high →
      IsLight matrix (greater low.0 high.0) → Looked matrix rules looks →
      Looked matrix (rules ++ more) (suc looks)
  more_light rules more looks i j low high e f g light h k p l s =
      let longer = shared_pairs-more rules more in
      let some_left = place-within (shared_pairs rules) looks (i, j) e in
      let old : slice_get (shared_pairs rules) k ≡ Some p =
      sym (get-front (shared_pairs rules) longer.0 k (omega arith))
      ∙ ap (λ x. slice_get x k) (sym longer.1) ∙ s in
      let places = old_places rules p.0 p.1 k old in
      let here : IsLight matrix (greater (left_of rules p.0) (left_of rules p.1)) =
      (let cases : (k < looks) ⊎ (k ≡ looks) = grind arith in
      elim cases [
        | inl x ↦ h k p x old
        | inr x ↦ (
            let t = same_pair i j p.0 p.1 (sym e ∙ ap (slice_get (shared_pairs rules)) (sym x)
            ∙ old) in
            let a : low.0 ≡ left_of rules p.0 = sym (left-is rules i low f)
            ∙ ap (left_of rules) t.0 in
            let b : high.0 ≡ left_of rules p.1 = sym (left-is rules j high g)
            ∙ ap (left_of rules) t.1 in
            subst (λ y. IsLight matrix (greater y (left_of rules p.1))) a
            (subst (λ y. IsLight matrix (greater low.0 y)) b light))
      ]) in
      subst (λ y. IsLight matrix (greater y (left_of (rules ++ more) p.1)))
      (sym (left-front rules more p.0 places.0))
      (subst (λ y. IsLight matrix (greater (left_of rules p.0) y))
      (sym (left-front rules more p.1 places.1)) here)

  -- the peaks of a finished run are not too heavy
  pub run_light : (budget : ℕ) (rules : List Rule) (looks : ℕ) (final : List Rule) (n : ℕ) →
      Looked matrix rules looks → Runs matrix order budget rules looks (Finished final n) →
      AreLightPeaks matrix final
  unfolding Runs
  run_light zero rules looks final n h (inl (e, f)) =
      subst (AreLightPeaks matrix) (sym (final_is final rules n looks f))
      (all_light rules looks e h)
  run_light zero rules looks final n h (inr (i, j, e, f)) =
      absurd (not_unfinished final n looks i j f)
  run_light (suc budget) rules looks final n h (inl (e, f)) =
      subst (AreLightPeaks matrix) (sym (final_is final rules n looks f))
      (all_light rules looks e h)
  run_light (suc budget) rules looks final n h (inr (i, j, low, high, e, f, g, inl (x, y))) =
      absurd (not_heavy final n i j y)
  run_light (suc budget) rules looks final n h
      (inr (i, j, low, high, e, f, g, inr (more, look, r))) =
      run_light budget (rules ++ more) (suc looks) final n
      (more_light rules more looks i j low high e f g look.light h) r

-- a monomial is the least common multiple of it and itself
greater-self : (u : List ℕ) → greater u u ≡ u
greater-self u =
    same (greater u u) u (omega (arith, length-greater u u)) (λ k. omega (arith, at-greater u u k))

-- the least common multiple of two monomials goes both ways
greater-turned : (u v : List ℕ) → greater u v ≡ greater v u
greater-turned u v =
    same (greater u v) (greater v u) (omega (arith, length-greater u v, length-greater v u))
    (λ k. omega (arith, at-greater u v k, at-greater v u k))

-- a symbol in both is one in both
shares-turned : (u v : List ℕ) → shares u v ≡ true → shares v u ≡ true
shares-turned u v s =
    true_from_ne_false (shares v u) (λ e.
    let r = shares-place u v s in
    let a = r.1 in
    let b = r.2 in
    elim (shares-no v u e r.0) [ inl x ↦ absurd (omega arith) | inr x ↦ absurd (omega arith) ])

-- kept rules have left sides of the run; where two are of one rule, its left side is to be light
pub kept_peaks : (matrix : Design) (rules kept : List Rule) → AreLightPeaks matrix rules →
    ((i j : ℕ) (low high : Rule) → i < j → slice_get kept i ≡ Some low →
    slice_get kept j ≡ Some high → low.0 ≡ high.0 → IsLight matrix low.0) →
    IsReduction rules kept → AreLightPeaks matrix kept
kept_peaks matrix rules kept peaks light reduction i j low high l f g s =
    let a = (reduction.minimal i low f).0 in
    let b = (reduction.minimal j high g).0 in
    let x : Rule = (low.0, a.1) in
    let y : Rule = (high.0, b.1) in
    let cases : (a.0 < b.0) ⊎ ((a.0 ≡ b.0) ⊎ (b.0 < a.0)) = grind arith in
    elim cases [
      | inl h ↦ peaks a.0 b.0 x y h a.2 b.2 s
      | inr more ↦ elim more [
        | inl e ↦ (
            let same_left : low.0 ≡ high.0 =
            ap (λ (r : Rule). r.0) (same_rule rules a.0 b.0 x y e a.2 b.2) in
            subst (IsLight matrix) (sym (greater-self low.0)
            ∙ ap (greater low.0) same_left) (light i j low high l f g same_left))
        | inr h ↦
            subst (IsLight matrix) (greater-turned high.0 low.0)
            (peaks b.0 a.0 y x h b.2 a.2 (shares-turned low.0 high.0 s))
      ]
    ]
