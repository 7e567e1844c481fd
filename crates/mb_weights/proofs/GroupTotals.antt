-- The totals of groups over the cells from one on.
use Rattle.std.proofs.Common.{List, [], add-one, ap, arith, cond, drop, drop-cons, inl, inr, length, length-drop, length-set, refl, replicate, set, subst, suc, sum, sym, ℕ, ◌*◌, ◌+◌, ◌<◌, ◌==◌, ◌^◌, ◌∙◌, ◌∷◌, ◌≡◌, ◌≤◌, ◌⊎◌}
use Rattle.std.proofs.Math.ListN.{drop_of_length-le}
use Rattle.std.proofs.lemmas.Bool.{cases_eq, eq-eqb, ne_eqb}
use Rattle.std.proofs.lemmas.List.{get_or-replicate, get_or-set_other, get_or-set_same, length-replicate}
use Rattle.std.proofs.lemmas.List.Elements.{All-drop, All-head, All-tail}
use Rattle.mb_tables.specs.Counts.{AreCounts}
use Rattle.mb_tables.specs.Vectors.{at}
use Rattle.mb_weights.proofs.CellFactors.{in_group-nil, total_of-cons}
use Rattle.mb_weights.specs.loops.Factors.{AreTotals, kept_groups, total_from, total_of}

-- the total from a cell on is its count, where it is of the group, and the total of the later ones
pub total_from-suc : (g : ℕ) (groups u : List ℕ) (k : ℕ) →
    k < length groups → length u ≡ length groups →
    total_from k g groups u ≡ cond (at groups k == g) (at u k) 0 + total_from (k + 1) g groups u
total_from-suc g groups u k l n =
    let e = drop-cons groups k 0 l in
    let f = drop-cons u k 0 (omega arith) in
    rw (e, f, add-one)
    (total_of-cons g (at groups k) (at u k) (drop (suc k) groups) (drop (suc k) u))

-- behind the last cell there is none
pub total_from-all : (g : ℕ) (groups u : List ℕ) (k : ℕ) → length groups ≤ k →
    total_from k g groups u ≡ 0
total_from-all g groups u k l =
    let e = drop_of_length-le groups l in
    rw e (ap sum (in_group-nil g (drop k u)))

-- a total of counts of 32 bits is below 2^32 for each cell
total_of_small : (g : ℕ) (groups u : List ℕ) → length u ≡ length groups → AreCounts u →
    total_of g groups u ≤ 2 ^ 32 * length u
total_of_small g [] u n a = let e = ap sum (in_group-nil g u) in omega arith
total_of_small g (h ∷ groups) [] n a = absurd (omega arith)
total_of_small g (h ∷ groups) (x ∷ u) n a =
    let e = total_of-cons g h x groups u in
    let f = total_of_small g groups u (omega arith) (All-tail (λ x. x < 2 ^ 32) x u a) in
    let first = All-head (λ x. x < 2 ^ 32) x u a in
    elim (cases_eq h g) [
      | inl same ↦ let i = eq-eqb h g same in let k = rw i at e in omega (arith, k)
      | inr other ↦ let i = ne_eqb h g other in let k = rw i at e in omega (arith, k)
    ]

-- and from a cell on
pub total_from_small : (g k : ℕ) (groups u : List ℕ) → length u ≡ length groups → AreCounts u →
    total_from k g groups u ≤ 2 ^ 32 * length u
total_from_small g k groups u n a =
    let e = length-drop k groups in
    let f = length-drop k u in
    let h =
    total_of_small g (drop k groups) (drop k u) (omega arith)
    (All-drop (λ x. x < 2 ^ 32) k u a) in
    omega arith

-- before any cell is taken
pub totals-none : (cells : ℕ) (groups u : List ℕ) → length groups ≤ cells →
    AreTotals (replicate 64 0) cells groups u
totals-none cells groups u h = record {
  each_kept = length-replicate {A = ℕ} 64 0;
  each = λ g l. get_or-replicate {A = ℕ} 64 g 0 0 l ∙ sym (total_from-all g groups u cells h);
}

-- a cell is taken whose group's total is kept
pub totals-taken : (totals groups u : List ℕ) (k : ℕ) →
    k < length groups → length u ≡ length groups →
    AreTotals totals (k + 1) groups u → at groups k < kept_groups →
    AreTotals (set totals (at groups k) (at totals (at groups k) + at u k)) k groups u
totals-taken totals groups u k l n t low = record {
  each_kept = length-set totals (at groups k) (at totals (at groups k) + at u k) ∙ t.each_kept;
  each = λ g small. by g small (cases_eq (at groups k) g);
}
  where
    by : (g : ℕ) → g < kept_groups → (at groups k ≡ g) ⊎ (at groups k ≡ g → ⊥) →
        at (set totals (at groups k) (at totals (at groups k) + at u k)) g
        ≡ total_from k g groups u
    by g small (inl same) =
        let kept = t.each_kept in
        let e = total_from-suc (at groups k) groups u k l n in
        let f = rw (eq-eqb (at groups k) (at groups k) refl) at e in
        let h = t.each (at groups k) low in
        let i =
        get_or-set_same totals (at groups k) (at totals (at groups k) + at u k) 0 (omega arith) in
        subst (λ g. at (set totals (at groups k) (at totals (at groups k) + at u k)) g
        ≡ total_from k g groups u) same (omega (arith, f, h, i))
    by g small (inr other) =
        let e = total_from-suc g groups u k l n in
        let f = rw (ne_eqb (at groups k) g other) at e in
        let h = t.each g small in
        let i =
        get_or-set_other totals (at groups k) g (at totals (at groups k) + at u k) 0
        (λ e. other (sym e)) in
        omega (arith, f, h, i)

-- a cell is passed whose group's total isn't kept
pub totals-passed : (totals groups u : List ℕ) (k : ℕ) →
    k < length groups → length u ≡ length groups →
    AreTotals totals (k + 1) groups u → kept_groups ≤ at groups k →
    AreTotals totals k groups u
totals-passed totals groups u k l n t high = record {
  each_kept = t.each_kept;
  each = λ g small.
      let e = total_from-suc g groups u k l n in
      let other : at groups k ≡ g → ⊥ = λ same. omega arith in
      let f = rw (ne_eqb (at groups k) g other) at e in
      let h = t.each g small in
      omega (arith, f, h);
}
