-- The weight of a table as a product of factors, a cell each.
use Rattle.std.proofs.Common.{All, IfSome, List, None, Option, Some, SomeIff, [], add-one, ap, arith, cond, drop, drop-cons, inl, inr, length, refl, suc, sum, sym, zero, ℕ, ◌*◌, ◌+◌, ◌-◌, ◌<◌, ◌==◌, ◌^◌, ◌∙◌, ◌∷◌, ◌≡◌, ◌≤◌}
use Rattle.std.proofs.Math.ListN.{drop_of_length-le}
use Rattle.std.proofs.Math.Nat.{mul-le-mul, one-le-pow, pow-suc, pow-zero}
use Rattle.std.proofs.lemmas.Bool.{cases_eq, eq-eqb, ne_eqb}
use Rattle.std.proofs.lemmas.List.Elements.{All-drop, All-head, All-tail}
use Rattle.std.proofs.lemmas.List.Sums.{sum_by-cons}
use Rattle.mb_matrix.specs.Measure.{AreWeights, Weighting}
use Rattle.mb_tables.specs.Vectors.{at}
use Rattle.mb_weights.proofs.Binomials.{ways-none, ways-zero, ways_above}
use Rattle.mb_weights.proofs.Multinomials.{multinomial-cons, multinomial-nil}
use Rattle.mb_weights.specs.Binomial.{ways}
use Rattle.mb_weights.specs.Weight.{coefficients, group_count, in_group, multinomial, powers, weight_of}
use Rattle.mb_weights.specs.loops.Factors.{factor, factors, factors_from, total_from, total_of}

-- a cell of the group in front
pub in_group-same : (h x : ℕ) (groups u : List ℕ) →
    in_group h (h ∷ groups) (x ∷ u) ≡ x ∷ in_group h groups u
unfolding in_group
in_group-same h x groups u = rw (eq-eqb h h refl) refl

-- a cell of another group in front
pub in_group-other : (g h x : ℕ) (groups u : List ℕ) → (h ≡ g → ⊥) →
    in_group g (h ∷ groups) (x ∷ u) ≡ in_group g groups u
unfolding in_group
in_group-other g h x groups u other = rw (ne_eqb h g other) refl

-- one group more
pub coefficients-suc : (n : ℕ) (groups u : List ℕ) →
    coefficients (suc n) groups u ≡ coefficients n groups u * multinomial (in_group n groups u)
unfolding coefficients
coefficients-suc n groups u = refl

-- no groups
pub coefficients-zero : (groups u : List ℕ) → coefficients zero groups u ≡ 1
unfolding coefficients
coefficients-zero groups u = refl

-- a cell of a later group adds nothing to the groups before
coefficients_other : (n h x : ℕ) (groups u : List ℕ) → n ≤ h →
    coefficients n (h ∷ groups) (x ∷ u) ≡ coefficients n groups u
coefficients_other zero h x groups u l =
    coefficients-zero (h ∷ groups) (x ∷ u) ∙ sym (coefficients-zero groups u)
coefficients_other (suc n) h x groups u l =
    let e = coefficients_other n h x groups u (omega arith) in
    let f = in_group-other n h x groups u (λ same. omega arith) in
    coefficients-suc n (h ∷ groups) (x ∷ u)
    ∙ rw (e, f) (sym (coefficients-suc n groups u))

-- a cell in front is a factor of its group's coefficient: in how many ways its count is chosen
-- among itself and the later cells of the group
coefficients-cons : (n h x : ℕ) (groups u : List ℕ) → h < n →
    coefficients n (h ∷ groups) (x ∷ u) ≡ ways (total_of h groups u) x * coefficients n groups u
coefficients-cons zero h x groups u l = absurd (omega arith)
coefficients-cons (suc n) h x groups u l =
    elim (cases_eq h n) [
      | inl same ↦ here n h x groups u same
      | inr other ↦
          let e = coefficients-cons n h x groups u (omega arith) in
          let f = in_group-other n h x groups u other in
          let g = coefficients-suc n groups u in
          coefficients-suc n (h ∷ groups) (x ∷ u) ∙ rw (e, f, g) (omega arith)
    ]
  where
    here : (n h x : ℕ) (groups u : List ℕ) → h ≡ n →
        coefficients (suc n) (h ∷ groups) (x ∷ u)
        ≡ ways (total_of h groups u) x * coefficients (suc n) groups u
    here n h x groups u same =
        let e = coefficients_other h h x groups u (omega arith) in
        let f = in_group-same h x groups u in
        let g = multinomial-cons x (in_group h groups u) in
        let k = coefficients-suc h groups u in
        rw (← same) (coefficients-suc h (h ∷ groups) (x ∷ u) ∙ rw (e, f, g, k) (omega arith))

-- the total of a group with a cell in front
pub total_of-cons : (g h x : ℕ) (groups u : List ℕ) →
    total_of g (h ∷ groups) (x ∷ u) ≡ cond (h == g) x 0 + total_of g groups u
total_of-cons g h x groups u =
    elim (cases_eq h g) [
      | inl same ↦ total_of-same g h x groups u same
      | inr other ↦
          let e = ap sum (in_group-other g h x groups u other) in
          let f = ne_eqb h g other in rw (e, f) (omega arith)
    ]
  where
    total_of-same : (g h x : ℕ) (groups u : List ℕ) → h ≡ g →
        total_of g (h ∷ groups) (x ∷ u) ≡ cond (h == g) x 0 + total_of g groups u
    total_of-same g h x groups u same =
        let e = ap sum (in_group-same g x groups u) in
        let f = sum_by-cons (λ x. x) x (in_group g groups u) in
        let k = eq-eqb g g refl in
        rw (same, e, f, k) refl

-- a cell in front of the factors
pub factors-cons : (h b x : ℕ) (groups bases u : List ℕ) →
    factors (h ∷ groups) (b ∷ bases) (x ∷ u)
    ≡ factor (total_of h groups u) b x * factors groups bases u
unfolding factors
factors-cons h b x groups bases u = refl

-- no cells
pub factors-nil : (bases u : List ℕ) → factors [] bases u ≡ 1
unfolding factors
factors-nil bases u = refl

-- a cell in front of the powers
powers-cons : (b x : ℕ) (bases u : List ℕ) →
    powers (b ∷ bases) (x ∷ u) ≡ b ^ x * powers bases u
unfolding powers
powers-cons b x bases u = refl

-- no cells, no powers
powers-nil : (u : List ℕ) → powers [] u ≡ 1
unfolding powers
powers-nil u = refl

-- no cells are in no group
pub in_group-nil : (n : ℕ) (u : List ℕ) → in_group n [] u ≡ []
unfolding in_group
in_group-nil n u = refl

-- no counts are in no group
in_group-short : (n h : ℕ) (groups : List ℕ) → in_group n (h ∷ groups) [] ≡ []
unfolding in_group
in_group-short n h groups = refl

-- with no cells each coefficient is 1
coefficients-nil : (n : ℕ) (u : List ℕ) → coefficients n [] u ≡ 1
coefficients-nil zero u = coefficients-zero [] u
coefficients-nil (suc n) u =
    let e = coefficients-nil n u in
    let f = in_group-nil n u in
    let g = multinomial-nil in
    coefficients-suc n [] u ∙ rw (e, f, g) refl

-- each group's number is below the number of groups
pub group_count-cons : (h : ℕ) (groups : List ℕ) → (h < group_count (h ∷ groups))
    × (group_count groups ≤ group_count (h ∷ groups))
unfolding group_count
group_count-cons h groups = (omega arith, omega arith)

-- the coefficients of any groups that hold all cells, times the powers, are the factors
pub coefficients-factors : (n : ℕ) (groups bases u : List ℕ) → group_count groups ≤ n →
    length bases ≡ length groups → length u ≡ length groups →
    coefficients n groups u * powers bases u ≡ factors groups bases u
coefficients-factors n [] [] u m long cells =
    let e = coefficients-nil n u in
    let f = factors-nil [] u in
    let g = powers-nil u in rw (e, f, g) refl
coefficients-factors n [] (b ∷ bases) u m long cells = absurd (omega arith)
coefficients-factors n (h ∷ groups) [] u m long cells = absurd (omega arith)
coefficients-factors n (h ∷ groups) (b ∷ bases) [] m long cells = absurd (omega arith)
coefficients-factors n (h ∷ groups) (b ∷ bases) (x ∷ u) m long cells =
    let top = group_count-cons h groups in
    let e = coefficients-cons n h x groups u (omega arith) in
    let f = powers-cons b x bases u in
    let g = factors-cons h b x groups bases u in
    let k = coefficients-factors n groups bases u (omega arith) (omega arith) (omega arith) in
    rw (e, f, g, ← k) (omega arith)

-- the weight of a table is the product of the factors of its cells
pub weight-factors : (measure : Weighting) (u : List ℕ) →
    AreWeights measure.groups measure.bases → length u ≡ length measure.bases →
    weight_of measure u ≡ factors measure.groups measure.bases u
weight-factors measure u w cells =
    let groups = w.each_group in
    coefficients-factors (group_count measure.groups) measure.groups measure.bases u (omega arith)
    (omega arith) (omega arith)

-- no factor is 0
pub factor_above : (rest b x : ℕ) → 1 ≤ b → 1 ≤ factor rest b x
factor_above rest b x h =
    mul-le-mul {n₁ = 1} {m₁ = 1} (ways_above rest x) (one-le-pow x b h)

-- nor is their product
pub factors_above : (groups bases u : List ℕ) → All (λ b. 1 ≤ b) bases →
    1 ≤ factors groups bases u
unfolding factors
factors_above [] bases u a = omega arith
factors_above (h ∷ groups) [] u a = omega arith
factors_above (h ∷ groups) (b ∷ bases) [] a = omega arith
factors_above (h ∷ groups) (b ∷ bases) (x ∷ u) a =
    mul-le-mul {n₁ = 1} {m₁ = 1}
    (factor_above (total_of h groups u) b x (All-head (λ b. 1 ≤ b) b bases a))
    (factors_above groups bases u (All-tail (λ b. 1 ≤ b) b bases a))

-- from a cell on: its factor, and those of the later cells
pub factors_from-suc : (groups bases u : List ℕ) (k : ℕ) →
    k < length groups → length bases ≡ length groups → length u ≡ length groups →
    factors_from k groups bases u
    ≡ factor (total_from (k + 1) (at groups k) groups u) (at bases k) (at u k)
    * factors_from (k + 1) groups bases u
factors_from-suc groups bases u k l m n =
    let e = drop-cons groups k 0 l in
    let f = drop-cons bases k 0 (omega arith) in
    let g = drop-cons u k 0 (omega arith) in
    rw (e, f, g, add-one)
    (factors-cons (at groups k) (at bases k) (at u k) (drop (suc k) groups)
    (drop (suc k) bases) (drop (suc k) u))

-- behind the last cell
pub factors_from-all : (groups bases u : List ℕ) (k : ℕ) → length groups ≤ k →
    factors_from k groups bases u ≡ 1
factors_from-all groups bases u k l =
    let e = drop_of_length-le groups l in
    rw e (factors-nil (drop k bases) (drop k u))

-- nor are those of the cells from one on
pub factors_from_above : (groups bases u : List ℕ) (k : ℕ) → All (λ b. 1 ≤ b) bases →
    1 ≤ factors_from k groups bases u
factors_from_above groups bases u k a =
    factors_above (drop k groups) (drop k bases) (drop k u) (All-drop (λ b. 1 ≤ b) k bases a)

-- a count of 0 gives no factor
pub factor-none : (rest b x : ℕ) → x ≡ 0 → factor rest b x ≡ 1
factor-none rest b x none =
    let e = ways-zero rest in
    let f = pow-zero b in
    ap (λ x. factor rest b x) none ∙ rw (e, f) refl

-- 1 to any power
one-pow : (n : ℕ) → 1 ^ n ≡ 1
one-pow zero = pow-zero 1
one-pow (suc n) = let e = one-pow n in pow-suc 1 n ∙ rw e refl

-- a base number of 1 gives no power
pub factor-one : (rest b x : ℕ) → b ≡ 1 → factor rest b x ≡ ways rest x
factor-one rest b x one =
    let e = one-pow x in
    ap (λ b. factor rest b x) one ∙ rw e (omega arith)

-- one cell more before those from one on
pub one_cell_more : (groups bases u : List ℕ) (k product rest : ℕ) →
    1 ≤ k → k ≤ length groups → length bases ≡ length groups → length u ≡ length groups →
    product ≡ factors_from k groups bases u →
    rest ≡ total_from (k - 1 + 1) (at groups (k - 1)) groups u →
    product * factor rest (at bases (k - 1)) (at u (k - 1)) ≡ factors_from (k - 1) groups bases u
one_cell_more groups bases u k product rest h l m n so_far total =
    let step = factors_from-suc groups bases u (k - 1) (omega arith) m n in
    let same : k - 1 + 1 ≡ k = omega arith in
    let f = ap (λ k. factors_from k groups bases u) same in
    rw (total, so_far, step, f) (omega arith)

-- each of two numbers above 0 is no more than their product
pub part_within : (a b : ℕ) → 1 ≤ a → 1 ≤ b → (a ≤ a * b) × (b ≤ a * b)
part_within zero b h l = absurd (omega arith)
part_within (suc a) zero h l = absurd (omega arith)
part_within (suc a) (suc b) h l = (omega arith, omega arith)

-- the factors from a cell on are no more than all
pub factors_within : (groups bases u : List ℕ) (k : ℕ) →
    length bases ≡ length groups → length u ≡ length groups → All (λ b. 1 ≤ b) bases →
    factors_from k groups bases u ≤ factors groups bases u
factors_within groups bases u zero m n a = omega arith
factors_within [] bases u (suc k) m n a =
    let e = factors-nil (drop (suc k) bases) (drop (suc k) u) in
    let f = factors-nil bases u in omega arith
factors_within (h ∷ groups) [] u (suc k) m n a = absurd (omega arith)
factors_within (h ∷ groups) (b ∷ bases) [] (suc k) m n a = absurd (omega arith)
factors_within (h ∷ groups) (b ∷ bases) (x ∷ u) (suc k) m n a =
    let rest = All-tail (λ b. 1 ≤ b) b bases a in
    let later = factors_within groups bases u k (omega arith) (omega arith) rest in
    let e = factors-cons h b x groups bases u in
    let f =
    part_within (factor (total_of h groups u) b x) (factors groups bases u)
    (factor_above (total_of h groups u) b x (All-head (λ b. 1 ≤ b) b bases a))
    (factors_above groups bases u rest) in
    omega (arith, later, e, f.1)

-- no cell is in a group that none of them names
in_group-absent : (g : ℕ) (groups u : List ℕ) → All (λ h. h ≡ g → ⊥) groups →
    in_group g groups u ≡ []
in_group-absent g [] u a = in_group-nil g u
in_group-absent g (h ∷ groups) [] a = in_group-short g h groups
in_group-absent g (h ∷ groups) (x ∷ u) a =
    in_group-other g h x groups u (All-head (λ h. h ≡ g → ⊥) h groups a)
    ∙ in_group-absent g groups u (All-tail (λ h. h ≡ g → ⊥) h groups a)

-- no weight is 0
pub weight_above : (measure : Weighting) (u : List ℕ) →
    AreWeights measure.groups measure.bases → length u ≡ length measure.bases →
    1 ≤ weight_of measure u
weight_above measure u w cells =
    let e = weight-factors measure u w cells in
    rw e (factors_above measure.groups measure.bases u w.positive)

-- an answer that is a number above 0, where there is one
pub answer_above : (P : Type 0) (answer : Option ℕ) (x : ℕ) → SomeIff answer P x → 1 ≤ x →
    IfSome answer (λ w. 1 ≤ w)
answer_above P None x is above = tt
answer_above P (Some w) x is above = let e = is.1 in omega arith

-- a cell in a group of its own whose base number is 1 has no part in the weight
pub own_group : (measure : Weighting) (u : List ℕ) →
    AreWeights measure.groups measure.bases → length u ≡ length measure.bases →
    (g x : ℕ) → All (λ h. h ≡ g → ⊥) measure.groups →
    weight_of (record measure { groups = g ∷ measure.groups; bases = 1 ∷ measure.bases }) (x ∷ u)
    ≡ weight_of measure u
own_group measure u w cells g x other =
    let groups = w.each_group in
    let e =
    coefficients-factors (group_count (g ∷ measure.groups)) (g ∷ measure.groups)
    (1 ∷ measure.bases) (x ∷ u) (omega arith) (omega arith) (omega arith) in
    let f = weight-factors measure u w cells in
    let k = factors-cons g 1 x measure.groups measure.bases u in
    let none = ap sum (in_group-absent g measure.groups u other) in
    let one : ways (total_of g measure.groups u) x ≡ 1 =
    ap (λ n. ways n x) none ∙ ways-none x in
    let power = one-pow x in
    rw (e, k, one, power, f) (omega arith)
