-- The weight by the factorials of the counts and of the sums of the groups.
use Rattle.std.proofs.Common.{List, [], ap, arith, inl, inr, length, map, refl, suc, sum, sym, zero, ℕ, ◌*◌, ◌<◌, ◌∙◌, ◌∷◌, ◌≡◌, ◌≤◌}
use Rattle.std.proofs.Math.Nat.{mul-mul-mul_comm}
use Rattle.std.proofs.lemmas.Bool.{cases_eq}
use Rattle.mb_matrix.specs.Measure.{AreWeights, Weighting}
use Rattle.mb_weights.proofs.CellFactors.{coefficients-suc, coefficients-zero, group_count-cons, in_group-nil, in_group-other, in_group-same}
use Rattle.mb_weights.proofs.Multinomials.{factorials, multinomial_exact, product-cons, product-nil}
use Rattle.mb_weights.specs.Laws.{group_factorials}
use Rattle.mb_weights.specs.Weight.{coefficients, factorial, group_count, in_group, multinomial, powers, weight_of}

-- the product of the factorials of the counts of the first n groups
unfoldable pub members : ℕ → List ℕ → List ℕ → ℕ
members zero groups u = 1
members (suc n) groups u = members n groups u * factorials (in_group n groups u)

-- one group more
members-suc : (n : ℕ) (groups u : List ℕ) →
    members (suc n) groups u ≡ members n groups u * factorials (in_group n groups u)
unfolding members
members-suc n groups u = refl

-- no groups
members-zero : (groups u : List ℕ) → members zero groups u ≡ 1
unfolding members
members-zero groups u = refl

-- one group's total more
group_factorials-suc : (n : ℕ) (groups u : List ℕ) →
    group_factorials (suc n) groups u
    ≡ group_factorials n groups u * factorial (sum (in_group n groups u))
unfolding group_factorials
group_factorials-suc n groups u = refl

-- no groups' totals
group_factorials-zero : (groups u : List ℕ) → group_factorials zero groups u ≡ 1
unfolding group_factorials
group_factorials-zero groups u = refl

-- group by group the division is exact
coefficients_exact : (n : ℕ) (groups u : List ℕ) →
    coefficients n groups u * members n groups u ≡ group_factorials n groups u
coefficients_exact zero groups u =
    rw (coefficients-zero groups u, members-zero groups u, group_factorials-zero groups u) refl
coefficients_exact (suc n) groups u =
    let v = in_group n groups u in
    let e = coefficients_exact n groups u in
    let f = multinomial_exact v in
    rw (coefficients-suc n groups u, members-suc n groups u, group_factorials-suc n groups u)
    (mul-mul-mul_comm (coefficients n groups u) (multinomial v) (members n groups u) (factorials v)
    ∙ ap (λ t. t * (multinomial v * factorials v)) e
    ∙ ap (λ t. group_factorials n groups u * t) f)

-- a cell of a later group is no member of those before
members_other : (n h x : ℕ) (groups u : List ℕ) → n ≤ h →
    members n (h ∷ groups) (x ∷ u) ≡ members n groups u
members_other zero h x groups u l =
    members-zero (h ∷ groups) (x ∷ u) ∙ sym (members-zero groups u)
members_other (suc n) h x groups u l =
    let e = members_other n h x groups u (omega arith) in
    let f = in_group-other n h x groups u (λ same. omega arith) in
    members-suc n (h ∷ groups) (x ∷ u) ∙ rw (e, f) (sym (members-suc n groups u))

-- and of one of them it is
members-cons : (n h x : ℕ) (groups u : List ℕ) → h < n →
    members n (h ∷ groups) (x ∷ u) ≡ factorial x * members n groups u
members-cons zero h x groups u l = absurd (omega arith)
members-cons (suc n) h x groups u l =
    elim (cases_eq h n) [
      | inl same ↦ here n h x groups u same
      | inr other ↦
          let e = members-cons n h x groups u (omega arith) in
          let f = in_group-other n h x groups u other in
          let g = members-suc n groups u in
          members-suc n (h ∷ groups) (x ∷ u) ∙ rw (e, f, g) (omega arith)
    ]
  where
    here : (n h x : ℕ) (groups u : List ℕ) → h ≡ n →
        members (suc n) (h ∷ groups) (x ∷ u) ≡ factorial x * members (suc n) groups u
    here n h x groups u same =
        let e = members_other h h x groups u (omega arith) in
        let f = ap factorials (in_group-same h x groups u) in
        let g = product-cons (factorial x) (map factorial (in_group h groups u)) in
        let k = members-suc h groups u in
        rw (← same) (members-suc h (h ∷ groups) (x ∷ u) ∙ rw (e, f, g, k) (omega arith))

-- with no cells there are none
members-nil : (n : ℕ) (u : List ℕ) → members n [] u ≡ 1
members-nil zero u = members-zero [] u
members-nil (suc n) u =
    let e = members-nil n u in
    let f = ap factorials (in_group-nil n u) in
    members-suc n [] u ∙ rw (e, f, product-nil) refl

-- each cell is a member of just one group
members_all : (n : ℕ) (groups u : List ℕ) → group_count groups ≤ n →
    length u ≡ length groups → members n groups u ≡ factorials u
members_all n [] [] m cells = members-nil n [] ∙ sym product-nil
members_all n [] (x ∷ u) m cells = absurd (omega arith)
members_all n (h ∷ groups) [] m cells = absurd (omega arith)
members_all n (h ∷ groups) (x ∷ u) m cells =
    let top = group_count-cons h groups in
    let e = members_all n groups u (omega arith) (omega arith) in
    members-cons n h x groups u (omega arith) ∙ ap (λ t. factorial x * t) e
    ∙ sym (product-cons (factorial x) (map factorial u))

-- the weight of a table by factorials
pub by_factorials : (measure : Weighting) (u : List ℕ) →
    AreWeights measure.groups measure.bases → length u ≡ length measure.bases →
    weight_of measure u * factorials u
    ≡ group_factorials (group_count measure.groups) measure.groups u * powers measure.bases u
by_factorials measure u w cells =
    let groups = w.each_group in
    let n = group_count measure.groups in
    let e = members_all n measure.groups u (omega arith) (omega arith) in
    let f = coefficients_exact n measure.groups u in
    let g = rw e at f in
    let k = ap (λ t. t * powers measure.bases u) g in
    omega arith
