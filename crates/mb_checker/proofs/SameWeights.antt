-- Weights are the same where they are so on each margin.
use Rattle.std.proofs.Common.{Bool, List, ap, arith, false, length, refl, sym, true, ℕ, ◌<◌, ◌∙◌, ◌≡◌}
use Rattle.mb_certificate.proofs.Reasons.{lists-same, same-lists}
use Rattle.mb_certificate.specs.FirstFault.{are_same}
use Rattle.mb_matrix.proofs.FillLaws.{length-margins}
use Rattle.mb_matrix.specs.Matrix.{Design, IsDesign}
use Rattle.mb_order.proofs.WeightLaws.{symbols-fit}
use Rattle.mb_order.specs.Monomial.{Monomial}
use Rattle.mb_order.specs.Weight.{symbols_of, weights}
use Rattle.mb_tables.proofs.VectorLaws.{same_places}
use Rattle.mb_tables.specs.Vectors.{at}

-- there is a weight for each margin
pub weights-length : (matrix : Design) (m : Monomial) → IsDesign matrix →
    length (weights matrix m) ≡ matrix.rows
weights-length matrix m design =
    length-margins matrix.rows (symbols_of matrix) m
    (symbols-fit matrix.rows matrix.columns design.each)

-- weights that are the same on each margin are the same
pub weights-same : (matrix : Design) (a b : Monomial) → IsDesign matrix →
    ((i : ℕ) → i < matrix.rows → at (weights matrix a) i ≡ at (weights matrix b) i) →
    true ≡ are_same (weights matrix a) (weights matrix b)
weights-same matrix a b design h =
    let p = weights-length matrix a design in
    let q = weights-length matrix b design in
    sym (lists-same (weights matrix a) (weights matrix b)
    (same_places (weights matrix a) (weights matrix b) (p ∙ sym q) (λ i l. h i (omega arith))))

-- a test that can't pass fails
fails : (t : Bool) → (t ≡ true → ⊥) → false ≡ t
fails true h = absurd (h refl)
fails false h = refl

-- lists that differ at a place differ
pub lists-differ : (u v : List ℕ) (i : ℕ) → (at u i ≡ at v i → ⊥) → false ≡ are_same u v
lists-differ u v i h = fails (are_same u v) (λ e. h (ap (λ x. at x i) (same-lists u v e)))
