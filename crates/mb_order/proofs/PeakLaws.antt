-- Laws of the pairs of rules: which are listed, and where.
use Rattle.std.proofs.Common.{Bool, List, Some, [], ap, arith, inl, inr, length, length-append, map, refl, slice_get, subst, suc, sym, zero, ℕ, ◌++◌, ◌+◌, ◌<◌, ◌∙◌, ◌∷◌, ◌≡◌, ◌⊎◌}
use Rattle.std.specs.List.{filter, range_with_len}
use Rattle.mb_matrix.specs.Matrix.{Design}
use Rattle.mb_order.specs.Monomial.{Exponents}
use Rattle.mb_order.specs.Peak.{left_in, left_of, pairs_below, right_in, shared_pairs, sides_of}
use Rattle.mb_order.specs.Rewriting.{Rule}
use Rattle.mb_order.specs.Weight.{Suits}
use Rattle.mb_tables.proofs.ListLaws.{In-cases, In-filter_only, In-left, In-map, In-map_range, In-range, In-right, filter-append, filter-same, get-front, place-in, range-only}
use Rattle.mb_tables.proofs.VectorLaws.{length-greater}
use Rattle.mb_tables.specs.Lists.{In}
use Rattle.mb_tables.specs.Vectors.{greater, shares}

-- each pair of numbers i below j below n is listed
pub In-pairs : (n i j : ℕ) → i < j → j < n → In {X = ℕ × ℕ} (i, j) (pairs_below n)
unfolding pairs_below In
In-pairs zero i j h l = absurd (omega arith)
In-pairs (suc n) i j h l =
    let pair : ℕ → ℕ × ℕ = λ k. (k, n) in
    let cases : (j < n) ⊎ (j ≡ n) = grind arith in
    elim cases [
      | inl g ↦
          In-left {X = ℕ
          × ℕ} (i, j) (pairs_below n) (map pair (range_with_len 0 n)) (In-pairs n i j h g)
      | inr e ↦ In-right {X = ℕ × ℕ} (i, j) (pairs_below n) (map pair (range_with_len 0 n))
          (subst (λ k. In {X = ℕ × ℕ} (i, k) (map pair (range_with_len 0 n))) (sym e)
          (In-map pair i (range_with_len 0 n) (In-range 0 n i (omega arith) (omega arith))))
    ]

-- the left side by its number
pub left-is : (rules : List Rule) (k : ℕ) (rule : Rule) → slice_get rules k ≡ Some rule →
    left_of rules k ≡ rule.0
left-is rules k rule e = ap left_in e

-- the sides by its number
pub sides-are : (rules : List Rule) (k : ℕ) (rule : Rule) → slice_get rules k ≡ Some rule →
    sides_of rules k ≡ rule
sides-are rules k rule e = ap (λ o. (left_in o, right_in o)) e

-- so they are those of a rule that is there
pub sides-get : (rules : List Rule) (k : ℕ) → k < length rules →
    slice_get rules k ≡ Some (sides_of rules k)
sides-get [] k l = absurd (omega arith)
sides-get (x ∷ rules) zero l = refl
sides-get (x ∷ rules) (suc k) l = sides-get rules k (omega arith)

-- a listed pair is one of numbers i below j below n
pub pairs-only : (n : ℕ) (p : ℕ × ℕ) → In p (pairs_below n) → (p.0 < p.1) × (p.1 < n)
unfolding pairs_below In
pairs-only zero p h = absurd h
pairs-only (suc n) p h =
    let pair : ℕ → ℕ × ℕ = λ i. (i, n) in
    elim (In-cases p (pairs_below n) (map pair (range_with_len 0 n)) h) [
      | inl i ↦ (let r = pairs-only n p i in let a = r.0 in let b = r.1 in (a, omega arith))
      | inr i ↦ (
          let r = In-map_range pair p (range_with_len 0 n) i in
          let a : p.0 ≡ r.0 = ap (λ (x : ℕ × ℕ). x.0) r.2 in
          let b : p.1 ≡ n = ap (λ (x : ℕ × ℕ). x.1) r.2 in
          let c = range-only 0 n r.0 r.1 in
          let d = c.1 in
          (omega arith, omega arith))
    ]

-- the places of a listed pair
pub old_places : (rules : List Rule) (i j k : ℕ) → slice_get (shared_pairs rules) k ≡ Some (i, j) →
    (i < length rules) × (j < length rules)
old_places rules i j k e =
    let pair : ℕ × ℕ = (i, j) in
    let test : ℕ × ℕ → Bool = λ p. shares (left_of rules p.0) (left_of rules p.1) in
    let r = pairs-only (length rules) pair
    (In-filter_only test pair (pairs_below (length rules)) (place-in (shared_pairs rules) k pair e))
    in
    let a = r.0 in let b = r.1 in
    (omega arith, b)

-- the left sides of the first rules stay when more follow
pub left-front : (rules more : List Rule) (k : ℕ) → k < length rules →
    left_of (rules ++ more) k ≡ left_of rules k
left-front rules more k h = ap left_in (get-front rules more k h)

-- the pairs of more rules begin with the pairs of these
pub shared_pairs-push : (rules : List Rule) (rule : Rule) → (rest : List (ℕ × ℕ))
    × (shared_pairs (rules ++ (rule ∷ [])) ≡ shared_pairs rules ++ rest)
unfolding pairs_below
shared_pairs-push rules rule =
    let n = length rules in
    let all = rules ++ (rule ∷ []) in
    let pair : ℕ → ℕ × ℕ = λ i. (i, n) in
    let test : ℕ × ℕ → Bool = λ p. shares (left_of all p.0) (left_of all p.1) in
    let old : ℕ × ℕ → Bool = λ p. shares (left_of rules p.0) (left_of rules p.1) in
    let long : length all ≡ suc n = length-append rules (rule ∷ [])
    ∙ (let f : n + 1 ≡ suc n = omega arith in f) in
    let last = map pair (range_with_len 0 n) in (
      filter test last,
      ap (λ m. filter test (pairs_below m)) long ∙ filter-append test (pairs_below n) last
          ∙ ap (λ l. l ++ filter test last) (filter-same test old (pairs_below n) (λ p i.
          let r = pairs-only n p i in
          let a = r.0 in let b = r.1 in
          ap (λ x. shares x (left_of all p.1)) (left-front rules (rule ∷ []) p.0 (omega arith))
          ∙ ap (shares (left_of rules p.0)) (left-front rules (rule ∷ []) p.1 b))),
    )

-- the least common multiple of two monomials of the matrix is one
pub peak-suits : (matrix : Design) (x y m : Exponents) → Suits matrix x → Suits matrix y →
    m.margins ≡ x.margins → m.list ≡ greater x.list y.list → Suits matrix m
peak-suits matrix x y m s t e f = record {
  margins = e ∙ s.margins;
  symbols = ap length f ∙ length-greater x.list y.list
      ∙ (let a = s.symbols in let b = t.symbols in omega arith);
}
