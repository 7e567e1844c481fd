-- How a run goes on, and how it ends.
use Rattle.std.proofs.Common.{List, None, Some, [], ap, arith, false, inl, inr, length, length-append, refl, slice_get, subst, suc, sym, true, zero, ℕ, ◌++◌, ◌+◌, ◌-◌, ◌<◌, ◌∙◌, ◌∷◌, ◌≡◌, ◌≤◌}
use Rattle.std.specs.declared.cmp.Ordering.{Ordering}
use Rattle.mb_completion.proofs.Turns.{before-grown, before-joined, before-passed, share, with}
use Rattle.mb_completion.specs.Faults.{Stops}
use Rattle.mb_completion.specs.Run.{Adds, Finished, IsLook, Outcome, Runs, TooHeavy, Unfinished}
use Rattle.mb_completion.specs.declared.fault.CompleteFault.{CompleteFault}
use Rattle.mb_completion.specs.declared.fault.CompleteFault.TheVariants as fault
use Rattle.mb_completion.specs.loops.Going.{GoesOn, pairs_before}
use Rattle.mb_completion.specs.loops.Looking.{HasLooked, IsHeavyPair}
use Rattle.mb_matrix.specs.Matrix.{Design}
use Rattle.mb_order.proofs.PeakLaws.{sides-get}
use Rattle.mb_order.specs.Monomial.{Monomial}
use Rattle.mb_order.specs.Peak.{left_of, shared_pairs, sides_of}
use Rattle.mb_order.specs.Rewriting.{Rule}
use Rattle.mb_order.specs.Weight.{IsLight}
use Rattle.mb_order.specs.declared.order.Order.{Order}
use Rattle.mb_rules.specs.RuleList.{cmp_of}
use Rattle.mb_tables.specs.Vectors.{greater}

module _ (matrix : Design) (order : Order) where
  -- a run that has no pair left is finished
  pub finishes : (budget : ℕ) (rules : List Rule) (looks : ℕ) →
      slice_get (shared_pairs rules) looks ≡ None →
      Runs matrix order budget rules looks (Finished rules looks)
  unfolding Runs
  finishes zero rules looks e = inl (e, refl)
  finishes (suc budget) rules looks e = inl (e, refl)

  -- a run whose looks are used up ends at the next pair
  pub leaves : (budget : ℕ) (rules : List Rule) (looks i j : ℕ) → budget ≡ 0 →
      slice_get (shared_pairs rules) looks ≡ Some (with j i) →
      Runs matrix order budget rules looks (Unfinished looks i j)
  unfolding Runs
  leaves budget rules looks i j z e =
      subst (λ b. Runs matrix order b rules looks (Unfinished looks i j)) (sym z)
      (inr (i, j, e, refl))

  -- a run ends at a pair whose peak is too heavy
  pub breaks : (budget : ℕ) (rules : List Rule) (looks i j : ℕ) → 0 < budget →
      slice_get (shared_pairs rules) looks ≡ Some (with j i) → i < length rules → j < length rules →
      (IsLight matrix (greater (left_of rules i) (left_of rules j)) → ⊥) →
      Runs matrix order budget rules looks (TooHeavy i j)
  unfolding Runs
  breaks zero rules looks i j z e f g h = absurd (omega arith)
  breaks (suc budget) rules looks i j z e f g h =
      inr (
        i,
        j,
        sides_of rules i,
        sides_of rules j,
        e,
        sides-get rules i f,
        sides-get rules j g,
        inl (h, refl),
      )

  -- a run goes on after a look
  pub looks_on : (budget : ℕ) (rules more : List Rule) (looks i j : ℕ) (end : Outcome) →
      slice_get (shared_pairs rules) looks ≡ Some (with j i) → i < length rules → j < length rules →
      IsLook matrix order rules (sides_of rules i) (sides_of rules j) more →
      Runs matrix order budget (rules ++ more) (suc looks) end →
      Runs matrix order (suc budget) rules looks end
  unfolding Runs
  looks_on budget rules more looks i j end e f g h r =
      inr (
        i,
        j,
        sides_of rules i,
        sides_of rules j,
        e,
        sides-get rules i f,
        sides-get rules j g,
        inr (more, h, r),
      )

  -- a look adds at most one rule
  few_born : (compare : Monomial → Monomial → Ordering) (p q : Monomial) (more : List Rule) →
      Adds compare p q more → length more ≤ 1
  few_born compare p q more (inl a) = let e = ap length a.1 in omega arith
  few_born compare p q more (inr (inl a)) = let e = ap length a.1 in omega arith
  few_born compare p q more (inr (inr a)) = let e = ap length a.1 in omega arith

  -- a run that stays where it is
  pub stays : (pairs : ℕ) (rules : List Rule) (looks : ℕ) → looks ≤ pairs →
      GoesOn matrix order pairs rules looks rules looks
  stays pairs rules looks h =
      record {
        later = omega arith;
        within = h;
        born = omega arith;
        longer = omega arith;
        ends = λ end r. r;
      }

  -- a run that goes on by one look
  pub goes_one : (pairs : ℕ) (rules now : List Rule) (looks i j : ℕ) → looks < pairs →
      slice_get (shared_pairs rules) looks ≡ Some (with j i) → i < length rules → j < length rules →
      HasLooked matrix order i j rules now → GoesOn matrix order pairs rules looks now (looks + 1)
  goes_one pairs rules now looks i j h e f g l =
      let look = l.1 in
      let few = few_born (cmp_of order matrix) look.low_form look.high_form l.0 look.adds in
      let long = ap length l.2 ∙ length-append rules l.0 in
      let a : looks + 1 ≡ suc looks = omega arith in
      let b : suc (pairs - (looks + 1)) ≡ pairs - looks = omega arith in
      record {
        later = omega arith;
        within = omega arith;
        born = omega arith;
        longer = omega arith;
        ends = λ end r.
            subst (λ n. Runs matrix order n rules looks end) b
            (looks_on (pairs - (looks + 1)) rules l.0 looks i j end e f g look
            (subst (λ n. Runs matrix order (pairs - (looks + 1)) (rules ++ l.0) n end) a
            (subst (λ x. Runs matrix order (pairs - (looks + 1)) x (looks + 1) end) l.2 r)));
      }

  -- a look that fails
  pub stops_here : (pairs : ℕ) (rules : List Rule) (looks i j : ℕ) (e : CompleteFault) →
      looks < pairs → slice_get (shared_pairs rules) looks ≡ Some (with j i) → i < length rules →
      j < length rules →
      IsHeavyPair matrix rules i j e → Stops matrix order (pairs - looks) rules looks e
  stops_here pairs rules looks i j (fault.Unfinished looked left) h e f g r = absurd r
  stops_here pairs rules looks i j (fault.Exponent pair) h e f g r =
      subst (λ x. Runs matrix order (pairs - looks) rules looks (TooHeavy x pair.1)) (sym r.0)
      (subst (λ x. Runs matrix order (pairs - looks) rules looks (TooHeavy i x)) (sym r.1)
      (breaks (pairs - looks) rules looks i j (omega arith) e f g r.2))
  stops_here pairs rules looks i j fault.OutOfMemory h e f g r = tt

-- the place in the row after a pair that shares no symbol, and after one that shares some
pub passes : (rules : List Rule) (i j : ℕ) → share rules (i, j) ≡ false →
    length (pairs_before rules (i + 1) j) ≡ length (pairs_before rules i j)
passes rules i j e = ap length (before-passed rules i j e)

-- a pair that shares a symbol counts in its row
pub counts : (rules now more : List Rule) (i j : ℕ) → i < j → j < length rules →
    share rules (i, j) ≡ true → now ≡ rules ++ more →
    length (pairs_before now (i + 1) j) ≡ length (pairs_before rules i j) + 1
counts rules now more i j h l e f =
    ap (λ r. length (pairs_before r (i + 1) j)) f
    ∙ ap length (before-grown rules more (i + 1) j (omega arith) l ∙ before-joined rules i j e)
    ∙ length-append (pairs_before rules i j) (with j i ∷ [])
