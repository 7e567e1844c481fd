-- Laws of monomials without symbols of margins.
use Rattle.std.proofs.Common.{List, [], ap, arith, drop, length, refl, suc, sym, true, zero, ℕ, ◌++◌, ◌<◌, ◌∙◌, ◌∷◌, ◌≡◌, ◌≤◌}
use Rattle.mb_matrix.proofs.FillLaws.{length-margins}
use Rattle.mb_matrix.specs.Fiber.{AreColumns, margins}
use Rattle.mb_order.proofs.WeightLaws.{symbols-length, weight}
use Rattle.mb_order.specs.MarginFree.{margin_free}
use Rattle.mb_order.specs.Monomial.{Monomial}
use Rattle.mb_order.specs.Weight.{symbols}
use Rattle.mb_tables.proofs.VectorLaws.{length-zeros, plus-zeros}
use Rattle.mb_tables.specs.Vectors.{all_zero, at, zeros}

-- a margin-free monomial has exponent 0 at each margin
pub free-at : (d : ℕ) (m : Monomial) → margin_free d m ≡ true → (k : ℕ) → k < d → at m k ≡ 0
unfolding all_zero
free-at zero m h k l = absurd (omega arith)
free-at (suc d) [] h k l = refl
free-at (suc d) (zero ∷ m) h zero l = refl
free-at (suc d) (zero ∷ m) h (suc k) l = free-at d m h k (omega arith)
free-at (suc d) (suc x ∷ m) h k l = cc

-- exponents 0 at all margins make a monomial margin-free
pub free-yes : (d : ℕ) (m : Monomial) → ((k : ℕ) → k < d → at m k ≡ 0) → margin_free d m ≡ true
unfolding all_zero
free-yes zero m h = refl
free-yes (suc d) [] h = refl
free-yes (suc d) (zero ∷ m) h = free-yes d m (λ k l. h (suc k) (omega arith))
free-yes (suc d) (suc x ∷ m) h = let e = h 0 (omega arith) in cc

-- the monomial of a table is margin-free
pub free-zeros : (d : ℕ) (u : List ℕ) → margin_free d (zeros d ++ u) ≡ true
unfolding zeros all_zero
free-zeros zero u = refl
free-zeros (suc d) u = free-zeros d u

-- a margin-free monomial is that of its cells' exponents
pub free-whole : (d : ℕ) (m : Monomial) → margin_free d m ≡ true → d ≤ length m →
    zeros d ++ drop d m ≡ m
unfolding zeros all_zero
free-whole zero m e h = refl
free-whole (suc d) [] e h = absurd (omega arith)
free-whole (suc d) (zero ∷ m) e h = ap (λ l. 0 ∷ l) (free-whole d m e (omega arith))
free-whole (suc d) (suc x ∷ m) e h = cc

-- so its weight is the margins of these
pub free-weight : (d : ℕ) (columns : List (List ℕ)) (m : Monomial) → AreColumns d columns →
    length m ≡ length (symbols d columns) → margin_free d m ≡ true →
    margins d (symbols d columns) m ≡ margins d columns (drop d m)
free-weight d columns m fit w e =
    let wide = symbols-length d columns in
    let cells = margins d columns (drop d m) in
    let high : d ≤ length cells =
    let l = length-margins d columns (drop d m) fit in omega arith in
    ap (margins d (symbols d columns)) (sym (free-whole d m e (omega arith)))
    ∙ weight d columns (zeros d) (drop d m) fit (length-zeros d) ∙ plus-zeros d cells high
