-- The test of a move, and the first row that is none.
use Rattle.std.proofs.Common.{All, Bool, List, None, Some, [], arith, cond, false, get_or, length, pos, refl, suc, take, true, zero, ℕ, ℤ, ◌+◌, ◌<◌, ◌∙◌, ◌∷◌, ◌≡◌}
use Rattle.std.proofs.lemmas.Bool.{false_from_ne_true}
use Rattle.std.proofs.lemmas.Bool.Decides.{Decides-int_eq}
use Rattle.std.proofs.lemmas.List.Elements.{All-from_recursion}
use Rattle.std.proofs.lemmas.List.Sums.{AllPass-from_list_all, list_all-from_AllPass}
use Rattle.std.specs.List.{AllByRecursion}
use Rattle.std.specs.Ordering.{int_eq}
use Rattle.mb_moves.specs.Testing.{first_wrong, is_move}
use Rattle.mb_tables.specs.Margin.{move_margin}
use Rattle.mb_tables.specs.Rows.{IsMoveOf}

module _ (matrix : List (List ℤ)) (move : List ℤ) where
  -- the test of one margin
  abbrev is_kept : List ℤ → Bool
  is_kept row = int_eq (move_margin row move) (pos 0)

  -- a row that passes the test is a move
  pub is_move-sound : is_move matrix move ≡ true → IsMoveOf matrix move
  is_move-sound e k d l =
      (Decides-int_eq (move_margin (get_or matrix k d) move) (pos 0)).0
      (AllPass-from_list_all is_kept matrix e k d l)

  -- a move passes it
  pub is_move-yes : IsMoveOf matrix move → is_move matrix move ≡ true
  is_move-yes h =
      list_all-from_AllPass is_kept matrix
      (λ k d l. (Decides-int_eq (move_margin (get_or matrix k d) move) (pos 0)).1 (h k d l))

-- a row with a margin that isn't 0 fails it
pub is_move-no : (matrix : List (List ℤ)) (move : List ℤ) → (IsMoveOf matrix move → ⊥) →
    is_move matrix move ≡ false
is_move-no matrix move h = false_from_ne_true (is_move matrix move)
    (λ e. h (is_move-sound matrix move e))

-- where the test finds no row, each row has margins 0
found_none : (matrix : List (List ℤ)) (row : ℕ) (rows : List (List ℤ)) →
    first_wrong matrix row rows ≡ None → AllByRecursion (IsMoveOf matrix) rows
found_none matrix row [] e = tt
found_none matrix row (move ∷ rows) e =
    by (is_move matrix move) refl (λ f. found_none matrix (suc row) rows f) e
  where
    by : (test : Bool) → is_move matrix move ≡ test →
        (first_wrong matrix (suc row) rows ≡ None → AllByRecursion (IsMoveOf matrix) rows) →
        cond test (first_wrong matrix (suc row) rows) (Some row) ≡ None →
        AllByRecursion (IsMoveOf matrix) (move ∷ rows)
    by true f rest e = (is_move-sound matrix move f, rest e)
    by false f rest e = absurd (cc)

-- and so it is in std's words
pub first_wrong-none : (matrix : List (List ℤ)) (row : ℕ) (rows : List (List ℤ)) →
    first_wrong matrix row rows ≡ None → All (IsMoveOf matrix) rows
first_wrong-none matrix row rows e = All-from_recursion _ rows (found_none matrix row rows e)

-- where each row has margins 0, the test finds none
pub first_wrong-all : (matrix : List (List ℤ)) (row : ℕ) (rows : List (List ℤ)) →
    All (IsMoveOf matrix) rows → first_wrong matrix row rows ≡ None
first_wrong-all matrix row [] h = refl
first_wrong-all matrix row (move ∷ rows) h =
    rw (is_move-yes matrix move (h 0 [] (omega arith)))
    (first_wrong-all matrix (suc row) rows (λ k d l. h (suc k) d (omega arith)))

-- where the rows before it have margins 0 and it has not, the test finds that row
pub first_wrong-at : (matrix : List (List ℤ)) (row k : ℕ) (rows : List (List ℤ)) → k < length rows →
    All (IsMoveOf matrix) (take k rows) →
    (IsMoveOf matrix (get_or rows k []) → ⊥) →
    first_wrong matrix row rows ≡ Some (row + k)
first_wrong-at matrix row k [] l h wrong = absurd (omega arith)
first_wrong-at matrix row zero (move ∷ rows) l h wrong =
    let same : row + 0 ≡ row = omega arith in
    rw (is_move-no matrix move wrong, same) refl
first_wrong-at matrix row (suc k) (move ∷ rows) l h wrong =
    let rest =
    first_wrong-at matrix (suc row) k rows (omega arith)
    (λ i d m. h (suc i) d (omega arith)) wrong in
    let same : suc row + k ≡ row + suc k = omega arith in
    rw (is_move-yes matrix move (h 0 [] (omega arith))) (rest ∙ rw same refl)
