-- The rules of a finished run are valid, and the sides of its pairs meet. So far: the sides of
-- the pairs looked at meet, since the pairs of a longer list of rules begin with those of a
-- shorter one, and what meets by some rules meets by more.
use Rattle.std.proofs.Common.{Bool, List, None, Some, [], ap, append-nil, append_assoc, arith, inl, inr, length, length-append, slice_get, subst, suc, sym, true, zero, ℕ, ◌++◌, ◌<◌, ◌∙◌, ◌≡◌, ◌≤◌, ◌⊎◌}
use Rattle.mb_completion.proofs.GrowingRules.{meet_more}
use Rattle.mb_completion.proofs.RunEndings.{final_is, not_heavy, not_unfinished}
use Rattle.mb_completion.specs.Run.{Finished, Runs}
use Rattle.mb_matrix.specs.Matrix.{Design, IsDesign}
use Rattle.mb_order.specs.declared.order.Order.{Order}
use Rattle.mb_rules.specs.RuleList.{ValidRules}
use Rattle.mb_order.proofs.PeakLaws.{In-pairs, left-is, old_places}
use Rattle.mb_order.specs.Peak.{PairsMeet, left_of, pairs_below, peak, shared_pairs}
use Rattle.mb_order.specs.Rewriting.{Meet, Rule, made}
use Rattle.mb_tables.proofs.ListLaws.{In-filter, In-place, get-front, get-more, none-past, place-within}
use Rattle.mb_tables.specs.Vectors.{greater, shares}
use Rattle.mb_completion.proofs.Looks.{look_meets, look_valid, same_pair, same_rule, shared_pairs-more}

-- the sides of the pairs looked at meet
abbrev LooksMeet : List Rule → ℕ → Type 0
LooksMeet rules looks =
    (k i j : ℕ) (low high : Rule) → k < looks → slice_get (shared_pairs rules) k ≡ Some (i, j) →
    slice_get rules i ≡ Some low → slice_get rules j ≡ Some high →
    Meet rules (made low (greater low.0 high.0)) (made high (greater low.0 high.0))

-- when all pairs are looked at, all meet
pairs_from_looks : (rules : List Rule) (looks : ℕ) → slice_get (shared_pairs rules) looks ≡ None →
    LooksMeet rules looks → PairsMeet rules
pairs_from_looks rules looks e h i j low high l f g s =
    let pair : ℕ × ℕ = (i, j) in
    let test : ℕ × ℕ → Bool = λ p. shares (left_of rules p.0) (left_of rules p.1) in
    let passes : test pair ≡ true = ap (λ x. shares x (left_of rules j)) (left-is rules i low f)
    ∙ ap (shares low.0) (left-is rules j high g) ∙ s in
    let listed =
    In-filter test pair (pairs_below (length rules))
    (In-pairs (length rules) i j l (place-within rules j high g)) passes in
    let p = In-place (shared_pairs rules) pair listed in
    h p.0 i j low high (none-past (shared_pairs rules) looks p.0 pair e p.1) p.1 f g

-- one more look
look_more : (rules : List Rule) (looks i j : ℕ) (low high : Rule) →
    slice_get (shared_pairs rules) looks ≡ Some (i, j) → slice_get rules i ≡ Some low →
    slice_get rules j ≡ Some high →
    Meet rules (made low (greater low.0 high.0)) (made high (greater low.0 high.0)) →
    LooksMeet rules looks → LooksMeet rules (suc looks)
look_more rules looks i j low high e f g met h k a b l m less s u v =
    let cases : (k < looks) ⊎ (k ≡ looks) = grind arith in
    elim cases [
      | inl x ↦ h k a b l m x s u v
      | inr x ↦ (
          let t = same_pair i j a b (sym e ∙ ap (slice_get (shared_pairs rules)) (sym x) ∙ s) in
          let y = same_rule rules i a low l t.0 f u in
          let z = same_rule rules j b high m t.1 g v in
          subst (λ (r : Rule). Meet rules (made l (greater l.0 r.0)) (made r (greater l.0 r.0))) z
          (subst (λ (r : Rule).
          Meet rules (made r (greater r.0 high.0)) (made high (greater r.0 high.0))) y met))
    ]

-- the looks done stay done under more rules
looks_stay : (rules more : List Rule) (looks : ℕ) → looks ≤ length (shared_pairs rules) →
    LooksMeet rules looks → LooksMeet (rules ++ more) looks
looks_stay rules more looks le h k i j low high less s f g =
    let longer = shared_pairs-more rules more in
    let old : slice_get (shared_pairs rules) k ≡ Some (i, j) =
    sym (get-front (shared_pairs rules) longer.0 k (omega arith))
    ∙ ap (λ l. slice_get l k) (sym longer.1) ∙ s in
    let places = old_places rules i j k old in
    meet_more rules more (made low (peak low high)) (made high (peak low high))
    (h k i j low high less old (sym (get-front rules more i places.0) ∙ f)
    (sym (get-front rules more j places.1) ∙ g))

-- and one look more is done, whose pair meets by the rules that are then there
looks_on : (rules more : List Rule) (looks i j : ℕ) (low high : Rule) → LooksMeet rules looks →
    slice_get (shared_pairs rules) looks ≡ Some (i, j) → slice_get rules i ≡ Some low →
    slice_get rules j ≡ Some high →
    Meet (rules ++ more) (made low (peak low high)) (made high (peak low high)) →
    (suc looks ≤ length (shared_pairs (rules ++ more))) × LooksMeet (rules ++ more) (suc looks)
looks_on rules more looks i j low high h e f g met =
    let longer = shared_pairs-more rules more in
    let some_left = place-within (shared_pairs rules) looks (i, j) e in
    let long = ap length longer.1 ∙ length-append (shared_pairs rules) longer.0 in
    let here =
    ap (λ l. slice_get l looks) longer.1
    ∙ get-front (shared_pairs rules) longer.0 looks some_left ∙ e in (
      omega arith,
      look_more (rules ++ more) looks i j low high here (get-more rules more i low f)
          (get-more rules more j high g) met (looks_stay rules more looks (omega arith) h),
    )

module _ (matrix : Design) (order : Order) (are : IsDesign matrix) where
  -- what a finished run gives
  abbrev Done : List Rule → List Rule → Type 0
  Done rules final =
      ValidRules order matrix final × PairsMeet final
      × ((more : List Rule) × (final ≡ rules ++ more))

  -- a run that is at its end
  ended : (rules final : List Rule) (looks : ℕ) → ValidRules order matrix rules →
      LooksMeet rules looks → slice_get (shared_pairs rules) looks ≡ None → final ≡ rules →
      Done rules final
  ended rules final looks valid h none e =
      subst (Done rules) (sym e)
      (valid, pairs_from_looks rules looks none h, ([], sym (append-nil rules)))

  -- a run that goes on with more rules
  done-more : (rules final more : List Rule) → Done (rules ++ more) final → Done rules final
  done-more rules final more h =
      (h.0, h.1, (more ++ (h.2).0, (h.2).1 ∙ append_assoc rules more (h.2).0))

  -- the rules of a finished run are valid, and their pairs meet
  pub finished : (budget : ℕ) (rules : List Rule) (looks : ℕ) (final : List Rule) (n : ℕ) →
      ValidRules order matrix rules → looks ≤ length (shared_pairs rules) →
      LooksMeet rules looks → Runs matrix order budget rules looks (Finished final n) →
      Done rules final
  unfolding Runs
  finished zero rules looks final n valid le h (inl (e, f)) =
      ended rules final looks valid h e (final_is final rules n looks f)
  finished zero rules looks final n valid le h (inr (i, j, e, f)) =
      absurd (not_unfinished final n looks i j f)
  finished (suc budget) rules looks final n valid le h (inl (e, f)) =
      ended rules final looks valid h e (final_is final rules n looks f)
  finished (suc budget) rules looks final n valid le h
      (inr (i, j, low, high, e, f, g, inl (x, y))) =
      absurd (not_heavy final n i j y)
  finished (suc budget) rules looks final n valid le h
      (inr (i, j, low, high, e, f, g, inr (more, look, r))) =
      let met = look_meets matrix order are rules i j low high more valid f g look in
      let on = looks_on rules more looks i j low high h e f g met in
      done-more rules final more (finished budget (rules ++ more) (suc looks) final n
      (look_valid matrix order are rules i j low high more valid f g look) on.0 on.1 r)
