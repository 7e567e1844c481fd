-- Steps by signed numbers.
use Rattle.std.proofs.Common.{All, Bool, List, None, Option, Some, ap, arith, drop, false, length, nat_le, negsuc, pos, refl, slice_get, slice_index_or, subst, suc, sym, true, zero, ℕ, ℤ, ◌&&◌, ◌+◌, ◌<◌, ◌∙◌, ◌≡◌, ◌≤◌}
use Rattle.std.proofs.Math.Seq.{drop-cons}
use Rattle.std.proofs.lemmas.Bool.{and_parts}
use Rattle.std.proofs.lemmas.Bool.Decides.{nat_tests}
use Rattle.std.proofs.lemmas.List.{drop_all}
use Rattle.std.specs.Bool.{OnFalse, OnTrue}
use Rattle.std.specs.Int.RustNames.{unsigned_abs}
use Rattle.std.specs.List.{list_all}
use Rattle.std.specs.Option.{option_and_then}
use Rattle.mb_certificate.proofs.LineFaults.{all-at}
use Rattle.mb_certificate.proofs.Walking.{MovesBy-moved, moved-MovesBy}
use Rattle.mb_certificate.specs.FirstFault.{moved_by, names_move, walk}
use Rattle.mb_certificate.specs.Valid.{AreMoves, MovesBy}
use Rattle.mb_checker.specs.loops.Walked.{HasSmallMargins, sign_of}
use Rattle.mb_matrix.proofs.CountBounds.{counts_below}
use Rattle.mb_matrix.proofs.MovedMargins.{kept_by_move}
use Rattle.mb_matrix.specs.Matrix.{Design, IsDesign, IsMove, margins_of}
use Rattle.mb_tables.proofs.OneStep.{moved-length}
use Rattle.mb_tables.specs.Counts.{AreCounts}
use Rattle.mb_tables.specs.Step.{Adds, Moved}
use Rattle.mb_tables.specs.declared.sign.Sign.{Sign}
use Rattle.mb_tables.specs.declared.sign.Sign.TheVariants.{Minus, Plus}

module _ (moves : List (List ℤ)) (k : ℕ) (move : List ℤ) (here : slice_get moves k ≡ Some move)
    (u v : List ℕ) where
  -- where a signed number leads is one step of its move
  pub MovesBy-signed : (step : ℤ) → unsigned_abs step ≡ suc k → MovesBy moves step u v →
      Moved (sign_of step) u move v
  MovesBy-signed (pos zero) e h = absurd h
  MovesBy-signed (pos (suc n)) e h =
      let f : n ≡ k = omega arith in
      let g : h.0 ≡ move = (let a = ap (slice_get moves) f in let b = h.1 in cc) in
      subst (λ m. Adds u m v) g h.2
  MovesBy-signed (negsuc n) e h =
      let f : n ≡ k = omega arith in
      let g : h.0 ≡ move = (let a = ap (slice_get moves) f in let b = h.1 in cc) in
      subst (λ m. Adds v m u) g h.2

  -- and the other way round
  pub signed-MovesBy : (step : ℤ) → unsigned_abs step ≡ suc k → Moved (sign_of step) u move v →
      MovesBy moves step u v
  signed-MovesBy (pos zero) e h = absurd (omega arith)
  signed-MovesBy (pos (suc n)) e h =
      let f : n ≡ k = omega arith in (move, ap (slice_get moves) f ∙ here, h)
  signed-MovesBy (negsuc n) e h =
      let f : n ≡ k = omega arith in (move, ap (slice_get moves) f ∙ here, h)

-- a step by a move of the matrix keeps margins
moved-margins : (matrix : Design) (sign : Sign) (u : List ℕ) (move : List ℤ) (v : List ℕ) →
    IsDesign matrix → IsMove matrix move → Moved sign u move v →
    margins_of matrix u ≡ margins_of matrix v
moved-margins matrix Plus u move v design is h = kept_by_move matrix u move v design.each h is
moved-margins matrix Minus u move v design is h =
    sym (kept_by_move matrix v move u design.each h is)

-- an option that is nothing in particular is nothing
nothing-in : {X : Type 0} (o : Option X) → ((x : X) → o ≡ Some x → ⊥) → o ≡ None
nothing-in None h = refl
nothing-in (Some x) h = absurd (h x refl)

module _ (matrix : Design) (moves : List (List ℤ)) (step : ℤ) (k : ℕ) (move : List ℤ)
    (design : IsDesign matrix) (are : AreMoves matrix moves)
    (here : slice_get moves k ≡ Some move) (number : unsigned_abs step ≡ suc k)
    (u : List ℕ) (long : length u ≡ length matrix.columns)
    (small : HasSmallMargins matrix u) where
  -- a table a step away has small margins, and as many cells
  pub step-small : (v : List ℕ) → Moved (sign_of step) u move v → HasSmallMargins matrix v
  step-small v h =
      subst (All (λ margin. margin < 4294967296))
      (moved-margins matrix (sign_of step) u move v design
      (all-at (IsMove matrix) moves k move are here) h) small

  -- so its counts fit 32 bits
  step-counts : (v : List ℕ) → Moved (sign_of step) u move v → AreCounts v
  step-counts v h =
      counts_below matrix.rows matrix.columns v 4294967296 design.each
      (moved-length (sign_of step) u move v h ∙ long) (step-small v h)

  -- what the code's answers mean
  pub step-moved : (b : Bool) (v : List ℕ) → OnTrue b (Moved (sign_of step) u move v) →
      OnTrue b (moved_by moves step u ≡ Some v)
  step-moved true v h =
      MovesBy-moved moves step u v (signed-MovesBy moves k move here u v step number h)
  step-moved false v h = tt

  pub step-none : (b : Bool) →
      OnFalse b ((v : List ℕ) → Moved (sign_of step) u move v → AreCounts v → ⊥) →
      OnFalse b (moved_by moves step u ≡ None)
  step-none true h = tt
  step-none false h =
      nothing-in (moved_by moves step u) (λ v e.
      let m = MovesBy-signed moves k move here u v step number (moved-MovesBy moves step u v e) in
      h v m (step-counts v m))

  pub step-cells : (b : Bool) (v : List ℕ) → OnTrue b (Moved (sign_of step) u move v) →
      OnFalse b (v ≡ u) → length v ≡ length matrix.columns
  step-cells true v h e = moved-length (sign_of step) u move v h ∙ long
  step-cells false v h e = ap length e ∙ long

  pub step-margins : (b : Bool) (v : List ℕ) → OnTrue b (Moved (sign_of step) u move v) →
      OnFalse b (v ≡ u) → HasSmallMargins matrix v
  step-margins true v h e = step-small v h
  step-margins false v h e = subst (HasSmallMargins matrix) (sym e) small

-- the front of a list that passes a test, and the rest of it
pub passing-front : (test : ℤ → Bool) (steps : List ℤ) (k : ℕ) →
    list_all test (drop k steps) ≡ true → k < length steps →
    (test (slice_index_or steps k (pos 0)) ≡ true) × (list_all test (drop (k + 1) steps) ≡ true)
passing-front test steps k e l =
    let n : k + 1 ≡ suc k = omega arith in
    let front = ap (list_all test) (sym (drop-cons steps k (pos 0) l)) ∙ e in
    let r = and_parts (test (slice_index_or steps k (pos 0))) (list_all test (drop (suc k) steps))
    front in
    (r.0, ap (λ i. list_all test (drop i steps)) n ∙ r.1)

-- a list of which an element fails a test
pub failing : (test : ℤ → Bool) (steps : List ℤ) (k : ℕ) (whole : Bool) →
    list_all test (drop k steps) ≡ whole → k < length steps →
    test (slice_index_or steps k (pos 0)) ≡ false → false ≡ whole
failing test steps k whole e l f =
    sym (ap (λ t. t && list_all test (drop (suc k) steps)) f)
    ∙ ap (list_all test) (sym (drop-cons steps k (pos 0) l)) ∙ e

-- one whose element passes
pub passing : (test : ℤ → Bool) (steps : List ℤ) (k : ℕ) (whole : Bool) →
    list_all test (drop k steps) ≡ whole → k < length steps →
    test (slice_index_or steps k (pos 0)) ≡ true →
    list_all test (drop (k + 1) steps) ≡ whole
passing test steps k whole e l f =
    let n : k + 1 ≡ suc k = omega arith in
    ap (λ i. list_all test (drop i steps)) n
    ∙ sym (ap (λ t. t && list_all test (drop (suc k) steps)) f)
    ∙ ap (list_all test) (sym (drop-cons steps k (pos 0) l)) ∙ e

-- and one that is gone through
pub passed : (test : ℤ → Bool) (steps : List ℤ) (k : ℕ) (whole : Bool) →
    list_all test (drop k steps) ≡ whole → length steps ≤ k → true ≡ whole
passed test steps k whole e l = sym (ap (list_all test) (drop_all k steps l)) ∙ e

module _ (moves : List (List ℤ)) (steps : List ℤ) (k : ℕ) (u : List ℕ)
    (whole : Option (List ℕ)) (rest : walk moves (drop k steps) u ≡ whole) where
  -- what is left of a path is its next number and what is left then
  front : k < length steps →
      option_and_then (λ next. walk moves (drop (suc k) steps) next)
      (moved_by moves (slice_index_or steps k (pos 0)) u) ≡ whole
  unfolding walk
  front l = ap (λ t. walk moves t u) (sym (drop-cons steps k (pos 0) l)) ∙ rest

  -- a path stops where the next number makes no table
  pub walk-stops : k < length steps → moved_by moves (slice_index_or steps k (pos 0)) u ≡ None →
      whole ≡ None
  walk-stops l e =
      sym (front l) ∙ ap (option_and_then (λ next. walk moves (drop (suc k) steps) next)) e

  -- and goes on where it does
  pub walk-goes : (next : List ℕ) → k < length steps →
      moved_by moves (slice_index_or steps k (pos 0)) u ≡ Some next →
      walk moves (drop (k + 1) steps) next ≡ whole
  walk-goes next l e =
      let n : k + 1 ≡ suc k = omega arith in
      ap (λ i. walk moves (drop i steps) next) n
      ∙ sym (ap (option_and_then (λ next. walk moves (drop (suc k) steps) next)) e) ∙ front l

  -- and ends where no number is left
  pub walk-ends : length steps ≤ k → whole ≡ Some u
  unfolding walk
  walk-ends l = sym rest ∙ ap (λ t. walk moves t u) (drop_all k steps l)

-- the number of a move is 1 to the number of moves
pub named-number : (moves : List (List ℤ)) (step : ℤ) → names_move moves step ≡ true →
    (1 ≤ unsigned_abs step) × (unsigned_abs step ≤ length moves)
named-number moves step e =
    let a = nat_le 1 (unsigned_abs step) in
    let b = nat_le (unsigned_abs step) (length moves) in
    let r = and_parts a b e in
    let f : a ≡ true = r.0 in
    let g : b ≡ true = r.1 in
    (grind (arith, nat_tests), grind (arith, nat_tests))
