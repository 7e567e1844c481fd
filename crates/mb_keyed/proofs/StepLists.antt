-- The list of steps is made, move by move.
use Rattle.std.proofs.Common.{List, Some, [], ap, arith, drop, inl, inr, length, length-append, refl, slice_get, subst, suc, sym, take, zero, ℕ, ℤ, ◌++◌, ◌+◌, ◌-◌, ◌<◌, ◌∙◌, ◌∷◌, ◌≡◌, ◌≤◌, ◌⊎◌, ⊎_elim}
use Rattle.std.proofs.lemmas.Option.{get_or_from_slice_get}
use Rattle.mb_keyed.proofs.NeedSteps.{are_needs}
use Rattle.mb_keyed.specs.loops.Needs.{AreNeeds, AreSteps, IsStepOf, needs_between, needs_of}
use Rattle.mb_keyed.specs.declared.needs.Need.{Need}
use Rattle.mb_keyed.specs.declared.step_list.StepList.{StepList}
use Rattle.mb_keyed.specs.declared.step_list.StepOf.{StepOf}
use Rattle.mb_matrix.specs.Key.{IsDelta, key_of}
use Rattle.mb_matrix.specs.declared.digit.Digit.{Digit}
use Rattle.mb_tables.proofs.ListLaws.{place-within}
use Rattle.mb_tables.specs.Limits.{most_moves}
use Rattle.mb_tables.specs.Rows.{AreRows, Rows}
use Rattle.mb_tables.specs.declared.sign.Sign.TheVariants.{Minus, Plus}

-- the front of a list that grows at its end
take-left : {X : Type 0} (n : ℕ) (xs ys : List X) → n ≤ length xs → take n (xs ++ ys) ≡ take n xs
take-left zero xs ys l = refl
take-left (suc n) [] ys l = absurd (omega arith)
take-left (suc n) (x ∷ xs) ys l = ap (λ list. x ∷ list) (take-left n xs ys (omega arith))

-- a part of a list that grows at its end
part-left : {X : Type 0} (from n : ℕ) (xs ys : List X) → from + n ≤ length xs →
    take n (drop from (xs ++ ys)) ≡ take n (drop from xs)
part-left zero n xs ys l = take-left n xs ys (omega arith)
part-left (suc from) n [] ys l = absurd (omega arith)
part-left (suc from) n (x ∷ xs) ys l = part-left from n xs ys (omega arith)

-- all of a list
take-all : {X : Type 0} (n : ℕ) (xs : List X) → n ≡ length xs → take n xs ≡ xs
take-all zero [] e = refl
take-all zero (x ∷ xs) e = absurd (omega arith)
take-all (suc n) [] e = absurd (omega arith)
take-all (suc n) (x ∷ xs) e = ap (λ list. x ∷ list) (take-all n xs (omega arith))

-- what was put behind a list
part-behind : {X : Type 0} (n : ℕ) (xs ys : List X) → n ≡ length ys →
    take n (drop (length xs) (xs ++ ys)) ≡ ys
part-behind n [] ys e = take-all n ys e
part-behind n (x ∷ xs) ys e = part-behind n xs ys e

-- a step whose needs are followed by others
step-longer : (digits : List Digit) (cells : ℕ) (move : List ℤ) (step : StepOf)
    (needs more : List Need) → IsStepOf digits cells move step needs →
    IsStepOf digits cells move step (needs ++ more)
step-longer digits cells move step needs more h = record {
  delta = h.delta;
  added = h.added;
  taken = h.taken;
  within = (let n = length-append needs more in let w = h.within in omega arith);
  plus = subst (AreNeeds cells Plus move)
      (sym (part-left step.first (step.middle - step.first) needs more
      (let a = h.added in let t = h.taken in let w = h.within in omega arith)))
      h.plus;
  minus = subst (AreNeeds cells Minus move)
      (sym (part-left step.middle (step.end - step.middle) needs more
      (let t = h.taken in let w = h.within in omega arith)))
      h.minus;
}

-- the step of a move whose needs were put behind the others
step-new : (digits : List Digit) (cells : ℕ) (move : List ℤ) (step : StepOf)
    (first middle last : List Need) → middle ≡ first ++ needs_of Plus 0 move →
    last ≡ middle ++ needs_of Minus 0 move → step.first ≡ length first →
    step.middle ≡ length middle → step.end ≡ length last → length move ≡ cells →
    IsDelta (key_of digits) digits move step.delta → IsStepOf digits cells move step last
step-new digits cells move step first middle last e f at then end wide delta =
    let plus = needs_of Plus 0 move in
    let minus = needs_of Minus 0 move in
    let m : length middle ≡ length first + length plus =
    ap (λ (list : List Need). length list) e ∙ length-append first plus in
    let n : length last ≡ length middle + length minus =
    ap (λ (list : List Need). length list) f ∙ length-append middle minus in
    let one : needs_between last step.first step.middle ≡ plus =
    ap (λ (list : List Need). take (step.middle - step.first) (drop step.first list)) f
    ∙ part-left step.first (step.middle - step.first) middle minus (omega arith)
    ∙ ap (λ (list : List Need). take (step.middle - step.first) (drop step.first list)) e
    ∙ ap (λ k. take (step.middle - step.first) (drop k (first ++ plus))) at
    ∙ part-behind (step.middle - step.first) first plus (omega arith) in
    let two : needs_between last step.middle step.end ≡ minus =
    ap (λ (list : List Need). take (step.end - step.middle) (drop step.middle list)) f
    ∙ ap (λ k. take (step.end - step.middle) (drop k (middle ++ minus))) then
    ∙ part-behind (step.end - step.middle) middle minus (omega arith) in
    record {
      delta = delta;
      added = omega arith;
      taken = omega arith;
      within = omega arith;
      plus = subst (AreNeeds cells Plus move) (sym one) (are_needs cells Plus move wide);
      minus = subst (AreNeeds cells Minus move) (sym two) (are_needs cells Minus move wide);
    }

-- what stands in a list with one more at its end
get-push : {X : Type 0} (xs : List X) (x : X) (k : ℕ) (y : X) →
    slice_get (xs ++ x ∷ []) k ≡ Some y →
    ((k < length xs) × (slice_get xs k ≡ Some y)) ⊎ ((k ≡ length xs) × (x ≡ y))
get-push [] x zero y e = inr (refl, cc)
get-push [] x (suc k) y e = absurd cc
get-push (z ∷ xs) x zero y e = inl (omega arith, e)
get-push (z ∷ xs) x (suc k) y e =
    ⊎_elim (λ h. let l = h.0 in inl (omega arith, h.1)) (λ h. inr (ap suc h.0, h.1))
    (get-push xs x k y e)

-- a listed move has the width of the list
pub move-cells : (moves : Rows) (items : List (List ℤ)) (k : ℕ) (move : List ℤ) →
    AreRows 0 most_moves moves → items ≡ moves.rows → slice_get items k ≡ Some move →
    length move ≡ moves.width
move-cells moves items k move sound e there =
    let here : slice_get moves.rows k ≡ Some move =
    subst (λ (list : List (List ℤ)). slice_get list k ≡ Some move) e there in
    subst (λ (m : List ℤ). length m ≡ moves.width)
    (get_or_from_slice_get moves.rows k move [] here)
    (sound.each k [] (place-within moves.rows k move here))

-- the steps of the first moves, so many of them
pub record AreStepsTo
    (digits : List Digit) (cells : ℕ) (moves : List (List ℤ)) (list : List StepOf)
    (needs : List Need) (count : ℕ) : Type 0 where
  pub long : length list ≡ count
  pub each : (k : ℕ) (move : List ℤ) (step : StepOf) → slice_get moves k ≡ Some move →
      slice_get list k ≡ Some step → IsStepOf digits cells move step needs

module _ (digits : List Digit) (cells : ℕ) (moves : List (List ℤ)) where
  -- of no move
  pub steps-none : (list : List StepOf) (needs : List Need) → list ≡ [] →
      AreStepsTo digits cells moves list needs 0
  steps-none list needs e =
      subst (λ (steps : List StepOf). AreStepsTo digits cells moves steps needs 0) (sym e)
      (record { long = refl; each = λ k move step there at. absurd cc })

  -- of one more
  pub steps-more : (list all : List StepOf) (step : StepOf) (first middle last : List Need)
      (count : ℕ) (move : List ℤ) → AreStepsTo digits cells moves list first count →
      slice_get moves count ≡ Some move → length move ≡ cells →
      middle ≡ first ++ needs_of Plus 0 move → last ≡ middle ++ needs_of Minus 0 move →
      step.first ≡ length first → step.middle ≡ length middle → step.end ≡ length last →
      IsDelta (key_of digits) digits move step.delta → all ≡ list ++ step ∷ [] →
      AreStepsTo digits cells moves all last (count + 1)
  steps-more list all step first middle last count move h there wide e f at then end delta g =
      subst (λ (steps : List StepOf). AreStepsTo digits cells moves steps last (count + 1)) (sym g)
      (record {
        long = (let n = length-append list (step ∷ []) in omega (arith, h.long));
        each = λ k other s here is. by k other s here (get-push list step k s is);
      })
    where
      grown : (other : List ℤ) (s : StepOf) → IsStepOf digits cells other s first →
          IsStepOf digits cells other s last
      grown other s i =
          subst (IsStepOf digits cells other s) (sym f)
          (step-longer digits cells other s middle (needs_of Minus 0 move)
          (subst (IsStepOf digits cells other s) (sym e)
          (step-longer digits cells other s first (needs_of Plus 0 move) i)))

      by : (k : ℕ) (other : List ℤ) (s : StepOf) → slice_get moves k ≡ Some other →
          ((k < length list) × (slice_get list k ≡ Some s)) ⊎ ((k ≡ length list) × (step ≡ s)) →
          IsStepOf digits cells other s last
      by k other s here (inl i) = grown other s (h.each k other s here i.1)
      by k other s here (inr i) =
          let place : slice_get moves k ≡ slice_get moves count =
          ap (slice_get moves) (i.0 ∙ h.long) in
          let same : move ≡ other = cc in
          subst (λ (m : List ℤ). IsStepOf digits cells m s last) same
          (subst (λ (x : StepOf). IsStepOf digits cells move x last) i.1
          (step-new digits cells move step first middle last e f at then end wide delta))

-- of all moves
pub steps-all : (digits : List Digit) (cells : ℕ) (moves items : List (List ℤ)) (steps : StepList)
    (count : ℕ) → items ≡ moves → count ≡ length items →
    AreStepsTo digits cells items steps.list.items steps.needs.items count →
    AreSteps digits cells moves steps
steps-all digits cells moves items steps count e f h =
    subst (λ (list : List (List ℤ)). AreSteps digits cells list steps) e
    (record { count = h.long ∙ f; each = h.each })
