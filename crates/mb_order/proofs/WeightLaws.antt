-- Laws of the weight: by its parts, and of the columns of all symbols.
use Rattle.std.proofs.Common.{All, List, [], ap, arith, length, suc, sym, zero, ℕ, ◌++◌, ◌+◌, ◌∙◌, ◌∷◌, ◌≡◌, ◌≤◌}
use Rattle.std.proofs.lemmas.List.Elements.{All-cons, All-from_get_or}
use Rattle.mb_matrix.proofs.FillLaws.{length-margins}
use Rattle.mb_matrix.specs.Fiber.{AreColumns, margins}
use Rattle.mb_order.specs.Weight.{symbols, units_from}
use Rattle.mb_tables.proofs.UnitLaws.{cell-put, length-unit, unit-not_zero}
use Rattle.mb_tables.proofs.VectorLaws.{at-zeros, plus-assoc, plus-zeros, zeros-append}
use Rattle.mb_tables.specs.Vectors.{at, plus, times, unit, zeros}

-- the weight by parts, from a margin on
pub weight_from : (d k more : ℕ) (columns : List (List ℕ)) (t x : List ℕ) → AreColumns d columns →
    k + more ≡ d → length t ≡ more →
    margins d (units_from d k more ++ columns) (t ++ x) ≡ plus (zeros k ++ t) (margins d columns x)
unfolding margins units_from
weight_from d k zero columns [] x h e l =
    sym (ap (λ z. plus z (margins d columns x)) (zeros-append k)
    ∙ plus-zeros k (margins d columns x) (let a = length-margins d columns x h in omega arith))
weight_from d k zero columns (y ∷ t) x h e l = absurd (omega arith)
weight_from d k (suc more) columns [] x h e l = absurd (omega arith)
weight_from d k (suc more) columns (y ∷ t) x h e l =
    let m = margins d columns x in
    let ih = weight_from d (suc k) more columns t x h (omega arith) (omega arith) in
    let f : d ≡ k + suc (length t) = omega arith in
    ap (plus (times y (unit d k))) ih ∙ sym (plus-assoc (times y (unit d k)) (zeros (suc k) ++ t) m)
    ∙ ap (λ z. plus z m) (ap (λ n. plus (times y (unit n k)) (zeros (suc k) ++ t)) f
    ∙ cell-put k y t)

-- the weight of a monomial: its margin exponents, and the margins of its cell exponents
pub weight : (d : ℕ) (columns : List (List ℕ)) (t x : List ℕ) → AreColumns d columns →
    length t ≡ d → margins d (symbols d columns) (t ++ x) ≡ plus t (margins d columns x)
unfolding zeros
weight d columns t x h l = weight_from d 0 d columns t x h (omega arith) l

-- the columns of all symbols are columns, from a margin on
pub symbols-fit_from : (d k more : ℕ) (columns : List (List ℕ)) → k + more ≡ d →
    AreColumns d columns → AreColumns d (units_from d k more ++ columns)
unfolding units_from
symbols-fit_from d k zero columns e h = h
symbols-fit_from d k (suc more) columns e h = (
  record {
    high = length-unit d k;
    not_zero =
        unit-not_zero d k (omega arith);
  },
  symbols-fit_from d (suc k) more columns (omega arith) h,
)

-- the columns of all symbols are columns
pub symbols-fit : (d : ℕ) (columns : List (List ℕ)) → AreColumns d columns →
    AreColumns d (symbols d columns)
symbols-fit d columns h = symbols-fit_from d 0 d columns (omega arith) h

-- no entry of a unit passes 1
unit-small : (n k i : ℕ) → at (unit n k) i ≤ 1
unfolding unit
unit-small zero k i = omega arith
unit-small (suc n) zero zero = omega arith
unit-small (suc n) zero (suc i) = let e = at-zeros n i in omega arith
unit-small (suc n) (suc k) zero = omega arith
unit-small (suc n) (suc k) (suc i) = unit-small n k i

-- no entry of the columns of all symbols passes a bound of the cells' entries, from a margin on
symbols-small_from : (most d k more : ℕ) (columns : List (List ℕ)) → 1 ≤ most →
    All (λ column. All (λ entry. entry ≤ most) column) columns →
    All (λ column. All (λ entry. entry ≤ most) column) (units_from d k more ++ columns)
unfolding units_from
symbols-small_from most d k zero columns some h = h
symbols-small_from most d k (suc more) columns some h =
    All-cons (All (λ entry. entry ≤ most)) (unit d k) (units_from d (suc k) more ++ columns)
    (All-from_get_or (λ entry. entry ≤ most) (unit d k) 0 (λ i l.
    let a = unit-small d k i in omega arith))
    (symbols-small_from most d (suc k) more columns some h)

-- no entry of the columns of all symbols passes a bound of the cells' entries
pub symbols-small : (most d : ℕ) (columns : List (List ℕ)) → 1 ≤ most →
    All (λ column. All (λ entry. entry ≤ most) column) columns →
    All (λ column. All (λ entry. entry ≤ most) column) (symbols d columns)
symbols-small most d columns some h = symbols-small_from most d 0 d columns some h

-- the columns of all symbols are so many, from a margin on
pub symbols-length_from : (d k more : ℕ) (columns : List (List ℕ)) →
    length (units_from d k more ++ columns) ≡ more + length columns
unfolding units_from
symbols-length_from d k zero columns = omega arith
symbols-length_from d k (suc more) columns = let e = symbols-length_from d (suc k) more columns in
    omega arith

-- there is a column for each margin and each cell
pub symbols-length : (d : ℕ) (columns : List (List ℕ)) →
    length (symbols d columns) ≡ d + length columns
symbols-length d columns = symbols-length_from d 0 d columns
