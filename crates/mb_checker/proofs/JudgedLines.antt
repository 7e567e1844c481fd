-- The first wrong one of lines that are judged one after the other.
use Rattle.std.proofs.Common.{List, None, Option, Some, [], ap, arith, inl, inr, length, refl, slice_get, slice_index_or, suc, sym, zero, ℕ, ◌+◌, ◌<◌, ◌∙◌, ◌∷◌, ◌≡◌, ◌≤◌, ◌⊎◌}
use Rattle.std.proofs.lemmas.Option.{slice_get-get_or}
use Rattle.mb_certificate.specs.FirstFault.{faults_from, first_from}
use Rattle.mb_certificate.specs.declared.line_fault.Fault.{Fault}
use Rattle.mb_certificate.specs.declared.line_fault.Reason.{Reason}
use Rattle.mb_checker.specs.loops.Lines.{AreRightBefore}

-- a line and why it is wrong
abbrev pub wrong : ℕ → Reason → Option Fault
wrong line reason = Some (record { line = line; reason = reason })

-- before the first line there is none
pub right-none : (lines : List (Option Reason)) → AreRightBefore lines 0
right-none lines i l = absurd (omega arith)

-- one right line more
pub right-more : (lines : List (Option Reason)) (k : ℕ) → AreRightBefore lines k →
    slice_get lines k ≡ Some None → AreRightBefore lines (k + 1)
right-more lines k h e i l =
    let cases : (i < k) ⊎ (i ≡ k) = grind arith in
    elim cases [
      | inl m ↦ h i m
      | inr m ↦ ap (slice_get lines) m ∙ e
    ]

-- the first wrong line
pub first-wrong : (line : ℕ) (lines : List (Option Reason)) (k : ℕ) (reason : Reason) →
    AreRightBefore lines k → slice_get lines k ≡ Some (Some reason) →
    first_from line lines ≡ wrong (line + k) reason
unfolding first_from
first-wrong line [] k reason h e = cc
first-wrong line (o ∷ lines) zero reason h e =
    let here : o ≡ Some reason = cc in
    let n : line ≡ line + 0 = omega arith in
    ap (λ x. first_from line (x ∷ lines)) here ∙ ap (λ l. wrong l reason) n
first-wrong line (o ∷ lines) (suc k) reason h e =
    let first = h 0 (omega arith) in
    let here : o ≡ None = cc in
    let n : suc line + k ≡ line + suc k = omega arith in
    ap (λ x. first_from line (x ∷ lines)) here
    ∙ first-wrong (suc line) lines k reason (λ i l. h (suc i) (omega arith)) e
    ∙ ap (λ l. wrong l reason) n

-- there is none where no line is wrong
pub none-wrong : (line : ℕ) (lines : List (Option Reason)) (k : ℕ) →
    AreRightBefore lines k → length lines ≤ k → first_from line lines ≡ None
unfolding first_from
none-wrong line [] k h l = refl
none-wrong line (o ∷ lines) zero h l = absurd (omega arith)
none-wrong line (o ∷ lines) (suc k) h l =
    let first = h 0 (omega arith) in
    let here : o ≡ None = cc in
    ap (λ x. first_from line (x ∷ lines)) here
    ∙ none-wrong (suc line) lines k (λ i m. h (suc i) (omega arith)) (omega arith)

module _ {X : Type 0} (fault : ℕ → X → Option Reason) where
  -- the line of an element, where the elements are numbered from any number on
  fault-from : (base : ℕ) (xs : List X) (k : ℕ) (x : X) → slice_get xs k ≡ Some x →
      slice_get (faults_from fault base xs) k ≡ Some (fault (base + k) x)
  unfolding faults_from
  fault-from base [] k x e = cc
  fault-from base (y ∷ xs) zero x e =
      let same : y ≡ x = cc in
      let n : base ≡ base + 0 = omega arith in
      ap (λ z. Some (fault base z)) same ∙ ap (λ b. Some (fault b x)) n
  fault-from base (y ∷ xs) (suc k) x e =
      let n : suc base + k ≡ base + suc k = omega arith in
      fault-from (suc base) xs k x e ∙ ap (λ b. Some (fault b x)) n

  -- the line of an element
  pub fault-at : (xs : List X) (k : ℕ) (x : X) → slice_get xs k ≡ Some x →
      slice_get (faults_from fault 0 xs) k ≡ Some (fault k x)
  fault-at xs k x e =
      let n : 0 + k ≡ k = omega arith in fault-from 0 xs k x e ∙ ap (λ b. Some (fault b x)) n

  -- there is a line for each element
  pub faults-length : (base : ℕ) (xs : List X) → length (faults_from fault base xs) ≡ length xs
  unfolding faults_from
  faults-length base [] = refl
  faults-length base (x ∷ xs) = ap suc (faults-length (suc base) xs)

-- an element that a loop reads stands at its place
pub item-get : {X : Type 0} (xs : List X) (k : ℕ) (x : X) → k < length xs →
    x ≡ slice_index_or xs k x → slice_get xs k ≡ Some x
item-get xs k x l e = slice_get-get_or xs k x l ∙ ap Some (sym e)
