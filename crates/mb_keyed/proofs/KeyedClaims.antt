-- What a worker claims of the keys of tables: of those one step from a table, and from a share.
use Rattle.std.proofs.Common.{List, Some, [], take, ◌∷◌, arith, get_or, inl, inr, length, slice_get, subst, sym, ℕ, ℤ, ◌+◌, ◌<◌, ◌≡◌, ◌⊎◌, ⊎_elim}
use Rattle.std.proofs.lemmas.List.{take_more}
use Rattle.std.proofs.lemmas.Option.{slice_get-get_or}
use Rattle.mb_keyed.proofs.ClaimSteps.{claims-none, claims-same, claims-then}
use Rattle.mb_keyed.proofs.NearKeys.{keys-both}
use Rattle.mb_keyed.specs.loops.Needs.{AreSteps, IsStepOf}
use Rattle.mb_keyed.specs.loops.Worked.{Claims, HasKeyedSteps, IsKeyed}
use Rattle.mb_keyed.specs.declared.needs.Need.{Need}
use Rattle.mb_keyed.specs.declared.step_list.StepList.{StepList}
use Rattle.mb_keyed.specs.declared.step_list.StepOf.{StepOf}
use Rattle.mb_keyed.specs.declared.worker.Worker.{Worker}
use Rattle.mb_matrix.specs.declared.digit.Digit.{Digit}
use Rattle.mb_rings.proofs.PlacesBelow.{NearBelow, Steps, all-near, below-cases, below-more, below-none, some-near}
use Rattle.mb_rings.specs.Claimed.{IsKeyOf}
use Rattle.mb_rings.specs.Ring.{Ring}
use Rattle.mb_tables.proofs.ListLaws.{In-cases, In-left, In-right, place-within}
use Rattle.mb_tables.specs.Lists.{In}
use Rattle.mb_tables.specs.Step.{IsNear, OneApart}
use Rattle.mb_tables.specs.Vectors.{at}

-- what a step makes of a table has a key
pub step-keyed : (digits : List Digit) (width : ℕ) (rows items : List (List ℤ)) (u : List ℕ)
    (k : ℕ) (move : List ℤ) → HasKeyedSteps digits width rows u → items ≡ rows →
    slice_get items k ≡ Some move → (v : List ℕ) → Steps u v move → IsKeyed digits v
step-keyed digits width rows items u k move h e there v a =
    h.steps v (
      k,
      move,
      subst (λ (list : List (List ℤ)). slice_get list k ≡ Some move) e there,
      a,
    )

-- the step of the move of a place
pub step-at : (digits : List Digit) (width cells : ℕ) (rows items : List (List ℤ))
    (steps : StepList) (list : List StepOf) (needs : List Need) (k : ℕ) (move : List ℤ)
    (d : StepOf) → AreSteps digits width rows steps → items ≡ rows → cells ≡ width →
    list ≡ steps.list.items → needs ≡ steps.needs.items → slice_get items k ≡ Some move →
    IsStepOf digits cells move (get_or list k d) needs
step-at digits width cells rows items steps list needs k move d h e wide f g there =
    let here : slice_get rows k ≡ Some move =
    subst (λ (list : List (List ℤ)). slice_get list k ≡ Some move) e there in
    let l : k < length rows = place-within rows k move here in
    let m : k < length steps.list.items = omega (arith, h.count) in
    subst (λ (n : ℕ). IsStepOf digits n move (get_or list k d) needs) (sym wide)
    (subst (λ (parts : List Need). IsStepOf digits width move (get_or list k d) parts) (sym g)
    (subst (λ (xs : List StepOf). IsStepOf digits width move (get_or xs k d) steps.needs.items)
    (sym f)
    (h.each k move (get_or steps.list.items k d) here (slice_get-get_or steps.list.items k d m))))

module _ (digits : List Digit) where
  -- keys of the same tables
  pub claims-of : (P R : List ℕ → Type 0) (before after : Worker) → ((v : List ℕ) → P v → R v) →
      ((v : List ℕ) → R v → P v) → Claims (IsKeyOf digits P) before after →
      Claims (IsKeyOf digits R) before after
  claims-of P R before after to from =
      claims-same (IsKeyOf digits P) (IsKeyOf digits R) before after
      (λ k h. (h.0, to h.0 h.1, h.2))
      (λ k h. (h.0, from h.0 h.1, h.2))

  -- keys of some tables, and then of others
  pub claims-both : (P Q R : List ℕ → Type 0) (before middle after : Worker) →
      ((v : List ℕ) → P v ⊎ Q v → R v) → ((v : List ℕ) → R v → P v ⊎ Q v) →
      Claims (IsKeyOf digits P) before middle → Claims (IsKeyOf digits Q) middle after →
      Claims (IsKeyOf digits R) before after
  claims-both P Q R before middle after to from f g =
      let same = keys-both digits P Q R to from in
      claims-same (λ k. IsKeyOf digits P k ⊎ IsKeyOf digits Q k) (IsKeyOf digits R) before after
      (λ k h. (same k).1 h) (λ k h. (same k).0 h)
      (claims-then (IsKeyOf digits P) (IsKeyOf digits Q) before middle after f g)

  -- a table of the ring more is expanded
  pub claimed-place : (moves : List (List ℤ)) (ring : Ring) (i : ℕ) (u : List ℕ) →
      slice_get ring i ≡ Some u → (first second last : Worker) →
      Claims (IsKeyOf digits (NearBelow moves ring i)) first second →
      Claims (IsKeyOf digits (OneApart moves u)) second last →
      Claims (IsKeyOf digits (NearBelow moves ring (i + 1))) first last
  claimed-place moves ring i u there first second last f g =
      claims-both (NearBelow moves ring i) (OneApart moves u) (NearBelow moves ring (i + 1))
      first second last
      (λ v k. below-more ring i u (λ w. OneApart moves w v) there k)
      (λ v k. below-cases ring i u (λ w. OneApart moves w v) there k) f g

  -- all tables are expanded
  pub claimed-ring : (moves : List (List ℤ)) (ring : Ring) (i : ℕ) (before after : Worker) →
      i ≡ length ring → Claims (IsKeyOf digits (NearBelow moves ring i)) before after →
      Claims (IsKeyOf digits (IsNear moves ring)) before after
  claimed-ring moves ring i before after end f =
      claims-of (NearBelow moves ring i) (IsNear moves ring) before after
      (λ v h. some-near moves ring i v h)
      (λ v h. subst (λ k. NearBelow moves ring k v) (sym end) (all-near moves ring v h)) f

  -- before the first table
  pub claimed-no_table : (moves : List (List ℤ)) (ring : Ring) (worker : Worker) →
      Claims (IsKeyOf digits (NearBelow moves ring 0)) worker worker
  claimed-no_table moves ring worker =
      claims-none worker (IsKeyOf digits (NearBelow moves ring 0))
      (λ k h. below-none ring (λ u. OneApart moves u h.0) h.1)

-- one key of a list more is claimed
pub claimed-key : (keys : List ℕ) (i : ℕ) (first second last : Worker) → i < length keys →
    Claims (λ k. In k (take i keys)) first second → Claims (λ k. k ≡ at keys i) second last →
    Claims (λ k. In k (take (i + 1) keys)) first last
unfolding In
claimed-key keys i first second last l f g =
    let more = take_more keys i 0 l in
    claims-same (λ k. In k (take i keys) ⊎ (k ≡ at keys i)) (λ k. In k (take (i + 1) keys))
    first last
    (λ k h. subst (In k) (sym more)
    (⊎_elim (λ j. In-left k (take i keys) (at keys i ∷ []) j)
    (λ e. In-right k (take i keys) (at keys i ∷ []) (inl e)) h))
    (λ k h. ⊎_elim (λ j. inl j) (λ j. inr (⊎_elim (λ e. e) (λ none. absurd none) j))
    (In-cases k (take i keys) (at keys i ∷ []) (subst (In k) more h)))
    (claims-then (λ k. In k (take i keys)) (λ k. k ≡ at keys i) first second last f g)
