-- Design matrices whose rows are the same are the same, and the other way round.
use Rattle.std.proofs.Common.{List, [], ap, arith, false, inl, inr, length, map, nat_eq, not, refl, subst, suc, sym, true, zero, ℕ, ◌<◌, ◌∙◌, ◌∷◌, ◌≡◌, ◌≤◌, ◌⊎◌}
use Rattle.std.proofs.lemmas.Bool.{and_from, and_parts, eq-eqb, eqb-true, false_from_ne_true}
use Rattle.mb_certificate.specs.FirstFault.{are_same}
use Rattle.mb_desk.specs.AnalyseCommand.{same_design}
use Rattle.mb_matrix.specs.Fiber.{AreColumns}
use Rattle.mb_matrix.specs.Matrix.{Design, IsDesign, row_of}
use Rattle.mb_tables.proofs.VectorLaws.{same}
use Rattle.mb_tables.specs.Vectors.{at}
use lib.Pointwise.{bytes_decides, pointwise, pointwise_decides}

-- past its end a vector counts as 0
at-past : (u : List ℕ) (k : ℕ) → length u ≤ k → at u k ≡ 0
at-past [] k l = refl
at-past (x ∷ u) zero l = absurd (omega arith)
at-past (x ∷ u) (suc k) l = at-past u k (omega arith)

-- columns of one length with the same entries are the same
same-column : (d : ℕ) (u v : List ℕ) → length u ≡ d → length v ≡ d →
    ((i : ℕ) → i < d → at u i ≡ at v i) → u ≡ v
same-column d u v long wide entries =
    same u v (long ∙ sym wide) (λ i.
    let cases : (i < d) ⊎ (d ≤ i) = grind arith in
    elim cases [
      | inl l ↦ entries i l
      | inr l ↦ at-past u i (omega arith) ∙ sym (at-past v i (omega arith))
    ])

-- the first elements of lists that are the same, and the others
heads : (x y : ℕ) (xs ys : List ℕ) → (x ∷ xs) ≡ (y ∷ ys) → (x ≡ y) × (xs ≡ ys)
heads x y xs ys e = (cc, cc)

-- columns with the same rows are the same
same-columns : (d : ℕ) (us vs : List (List ℕ)) → AreColumns d us → AreColumns d vs →
    length us ≡ length vs →
    ((i : ℕ) → i < d → map (λ u. at u i) us ≡ map (λ v. at v i) vs) → us ≡ vs
same-columns d [] [] fit fits long rows = refl
same-columns d [] (v ∷ vs) fit fits long rows = absurd (omega arith)
same-columns d (u ∷ us) [] fit fits long rows = absurd (omega arith)
same-columns d (u ∷ us) (v ∷ vs) fit fits long rows =
    let first = same-column d u v (fit.0).high (fits.0).high (λ i l.
    (heads (at u i) (at v i) (map (λ u. at u i) us) (map (λ v. at v i) vs) (rows i l)).0) in
    let others = same-columns d us vs fit.1 fits.1 (omega arith) (λ i l.
    (heads (at u i) (at v i) (map (λ u. at u i) us) (map (λ v. at v i) vs) (rows i l)).1) in
    cc

-- the test of two numbers
nat-decides : (m n : ℕ) → (nat_eq m n ≡ true → m ≡ n) × (m ≡ n → nat_eq m n ≡ true)
nat-decides m n = (eqb-true m n, eq-eqb m n)

-- the test says whether two design matrices are the same
pub same-decides : (a b : Design) →
    (same_design a b ≡ true → a ≡ b) × (a ≡ b → same_design a b ≡ true)
unfolding same_design
same-decides a b =
    let rows = nat-decides a.rows b.rows in
    let columns = pointwise_decides bytes_decides a.columns b.columns in (
      (λ e.
          let both = and_parts (nat_eq a.rows b.rows) (pointwise are_same a.columns b.columns) e in
          ap (λ n. let m : Design = record { rows = n; columns = a.columns } in m) (rows.0 both.0)
          ∙ ap (λ c. let m : Design = record { rows = b.rows; columns = c } in m)
          (columns.0 both.1)),
      (λ e.
          and_from (nat_eq a.rows b.rows) (pointwise are_same a.columns b.columns)
          (rows.1 (ap (λ (m : Design). m.rows) e)) (columns.1 (ap (λ (m : Design). m.columns) e))),
    )

-- design matrices that differ are told so
pub told-apart : (a b : Design) → (a ≡ b → ⊥) → false ≡ same_design a b
told-apart a b differ = sym (false_from_ne_true (same_design a b)
    (λ e. differ ((same-decides a b).0 e)))

-- and such with the same rows are told to be the same
pub told-same : (a b : Design) → IsDesign a → IsDesign b → a.rows ≡ b.rows →
    length a.columns ≡ length b.columns →
    ((i : ℕ) → i < a.rows → row_of a i ≡ row_of b i) → true ≡ same_design a b
told-same a b first second rows cells each =
    let columns = same-columns a.rows a.columns b.columns first.each
    (subst (λ d. AreColumns d b.columns) (sym rows) second.each) cells each in
    sym ((same-decides a b).1
    (ap (λ n. let m : Design = record { rows = n; columns = a.columns } in m) rows
    ∙ ap (λ c. let m : Design = record { rows = b.rows; columns = c } in m) columns))

-- where a row differs, so do the matrices
pub row-differs : (a b : Design) (i : ℕ) (u v : List ℕ) → u ≡ row_of a i → v ≡ row_of b i →
    true ≡ not (are_same u v) → false ≡ same_design a b
row-differs a b i u v first second differ =
    told-apart a b (λ e.
    let alike : u ≡ v = first ∙ ap (λ (m : Design). row_of m i) e ∙ sym second in
    let told = (bytes_decides u v).1 alike in
    let wrong : true ≡ false = differ ∙ ap not told in cc)
