-- What the test of the rows of a move file answers.
use Rattle.std.proofs.Common.{All, Err, IsSomeAnd, List, Ok, [], arith, eq-eqb, get_or, length, refl, slice_get, suc, take, zero, ℕ, ℤ, ◌+◌, ◌-◌, ◌<◌, ◌∙◌, ◌∷◌, ◌≡◌, ◌≤◌}
use Rattle.mb_desk.specs.MovesCommand.{counted, judged}
use Rattle.mb_desk.specs.declared.refusals.Refusal.TheVariants.{NotAMove}
use Rattle.mb_moves.proofs.Verdicts.{first_wrong-all, first_wrong-at}
use Rattle.mb_moves.specs.Testing.{first_wrong, verdict}
use Rattle.mb_tables.specs.Rows.{IsMoveOf, Rows}

-- a fact of the element at a place is one of the element there, and the place is in the list
at_place : (P : List ℤ → Type 0) (rows : List (List ℤ)) (k : ℕ) → IsSomeAnd (slice_get rows k) P →
    (k < length rows) × P (get_or rows k [])
at_place P [] k h = absurd h
at_place P (move ∷ rows) zero h = (omega arith, h)
at_place P (move ∷ rows) (suc k) h =
    let rest = at_place P rows k h in (omega (arith, rest.0), rest.1)

-- equal widths are compared as equal
pub judged-same : (matrix moves : Rows) → matrix.width ≡ moves.width →
    judged matrix moves
    ≡ counted matrix.width (verdict moves.rows (first_wrong matrix.rows 1 moves.rows))
judged-same matrix moves e = rw (eq-eqb matrix.width moves.width e) refl

-- where each row is a move, the rows are counted
pub judged-all : (matrix moves : Rows) → matrix.width ≡ moves.width →
    All (IsMoveOf matrix.rows) moves.rows → judged matrix moves ≡ Ok (length moves.rows)
judged-all matrix moves e h =
    judged-same matrix moves e ∙ rw (first_wrong-all matrix.rows 1 moves.rows h) refl

-- else the first row that is none is named, from 1
pub judged-wrong : (matrix moves : Rows) (row : ℕ) → matrix.width ≡ moves.width → 1 ≤ row →
    IsSomeAnd (slice_get moves.rows (row - 1)) (λ move. IsMoveOf matrix.rows move → ⊥) →
    All (IsMoveOf matrix.rows) (take (row - 1) moves.rows) →
    judged matrix moves ≡ Err (NotAMove row)
judged-wrong matrix moves row e some wrong before =
    let there = at_place (λ move. IsMoveOf matrix.rows move → ⊥) moves.rows (row - 1) wrong in
    let found = first_wrong-at matrix.rows 1 (row - 1) moves.rows there.0 before there.1 in
    let same : 1 + (row - 1) ≡ row = omega arith in
    judged-same matrix moves e ∙ rw (found, same) refl
