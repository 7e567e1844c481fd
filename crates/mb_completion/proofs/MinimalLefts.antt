-- The minimal left sides of rules that lead to the least are the corners.
use Rattle.std.proofs.Common.{List, Some, [], ap, arith, inl, inr, length, refl, slice_get, subst, suc, sum, sym, zero, ℕ, ◌<◌, ◌∙◌, ◌∷◌, ◌≡◌, ◌≤◌, ◌⊎◌}
use Rattle.std.specs.Ordering.{ordering_reverse}
use Rattle.std.specs.declared.cmp.Ordering.TheVariants.{Equal, Greater, Less}
use Rattle.std.specs.declared.cmp.Ordering.{Ordering}
use lib.WfN.{lt-wf_rel}
use mathlib.Core.WellFounded.InvImage
use mathlib.Core.WellFounded.{fix}
use Rattle.mb_matrix.specs.Fiber.{AreColumns, margins}
use Rattle.mb_order.specs.Monomial.{Monomial}
use Rattle.mb_order.specs.Order.{IsOrder}
use Rattle.mb_order.specs.Rewriting.{AreValid, IsValid, Leads, LeadsBy, Rule, Step}
use Rattle.mb_rules.proofs.Confluence.{rank, step_lowers, step_weight, step_wide}
use Rattle.mb_rules.proofs.LeastOfClass.{least_divisor, least_of, least_or_not}
use Rattle.mb_rules.specs.Classes.{IsLeast, ReachLeast}
use Rattle.mb_rules.specs.ReducedBasis.{IsCorner, IsMinimalLeft, IsReduced, IsReducedRule}
use Rattle.mb_tables.proofs.UnitLaws.{length-unit, one_less, one_less-only, sum-unit, unit-at, unit-le}
use Rattle.mb_tables.proofs.VectorLaws.{at-minus, at-plus, length-minus, length-plus, length-zeros, plus-assoc, plus-comm, plus-zeros, same, sum-plus, zero_or_place}
use Rattle.mb_tables.specs.Vectors.{at, minus, plus, unit, zeros}

module _ (d : ℕ) (columns : List (List ℕ)) (compare : Monomial → Monomial →
    Ordering) (fit : AreColumns d columns) (order : IsOrder (length columns) compare) where
  -- it is not the least of its class
  abbrev NotLeast : Monomial → Type 0
  NotLeast m = IsLeast d columns compare m → ⊥

  -- one exponent lowered gives a monomial that is not the least
  abbrev Lower : Monomial → Type 0
  Lower m = (k : ℕ) × (p : Monomial) × (k < length columns) × (length p ≡ length columns)
      × (m ≡ plus p (unit (length columns) k)) × NotLeast p

  -- below place j: something lowered is not least, or all that is lowered is least
  lower_place : (m : Monomial) → length m ≡ length columns → (j : ℕ) → j ≤ length columns →
      Lower m ⊎ ((k : ℕ) (p : Monomial) → k < j → length p ≡ length columns →
      m ≡ plus p (unit (length columns) k) → IsLeast d columns compare p)
  lower_place m w zero h = inr (λ k p l v e. absurd (omega arith))
  lower_place m w (suc j) h = by (lower_place m w j (omega arith)) (at m j) refl
    where
      by : Lower m
          ⊎ ((k : ℕ) (p : Monomial) → k < j → length p ≡ length columns →
          m ≡ plus p (unit (length columns) k) → IsLeast d columns compare p) → (x : ℕ) →
          at m j ≡ x →
          Lower m ⊎ ((k : ℕ) (p : Monomial) → k < suc j → length p ≡ length columns →
          m ≡ plus p (unit (length columns) k) → IsLeast d columns compare p)
      by (inl r) x e = inl r
      by (inr r) zero e = inr (λ k p l v f.
          let cases : (k < j) ⊎ (k ≡ j) = grind arith in
          elim cases [
            | inl g ↦ r k p g v f
            | inr g ↦ (
                let a = ap (λ x. at x k) f in let b = unit-at (length columns) k (omega arith) in
                let c = at-plus p (unit (length columns) k) k in
                let i : at m k ≡ 0 = ap (at m) g ∙ e in absurd (omega arith))
          ])
      by (inr r) (suc x) e =
          elim (least_or_not d columns compare fit order (minus m (unit (length columns) j))) [
            | inl q ↦
                inl (
                  j,
                  minus m (unit (length columns) j),
                  h,
                  length-minus m
                      (unit (length columns) j)
                      ∙ w,
                  one_less (length columns) j m w (omega arith),
                  (λ g. g q.0 (q.1).0 (q.1).1 (q.1).2),
                )
            | inr g ↦ inr (λ k p l v f.
                let cases : (k < j) ⊎ (k ≡ j) = grind arith in
                elim cases [
                  | inl i ↦ r k p i v f
                  | inr i ↦
                      subst (IsLeast d columns compare)
                      (ap (λ k. minus m (unit (length columns) k)) (sym i)
                      ∙ one_less-only (length columns) k m p w v f) g
                ])
          ]

  -- a corner that divides it
  abbrev CornerOf : Monomial → Type 0
  CornerOf m = (l : Monomial) × (rest : Monomial) × IsCorner d columns compare l
      × (length rest ≡ length columns) × (m ≡ plus l rest)

  -- what is not least has a corner as a divisor
  corner_of : (n : ℕ) (m : Monomial) → sum m < n → length m ≡ length columns → NotLeast m →
      CornerOf m
  corner_of zero m b w h = absurd (omega arith)
  corner_of (suc n) m b w h =
      elim (lower_place m w (length columns) (omega arith)) [
        | inl r ↦ (
            let one = unit (length columns) r.0 in
            let found =
            corner_of n r.1 (let a = ap sum r.4 in let e = sum-plus r.1 one in
            let f = sum-unit (length columns) r.0 r.2 in omega arith) r.3 r.5 in (
              found.0,
              plus found.1 one,
              found.2,
              (let a = length-plus found.1 one in let e = length-unit (length columns) r.0 in
                  let f = found.3 in omega arith),
              r.4 ∙ ap (λ x. plus x one) found.4 ∙ plus-assoc found.0 found.1 one,
            ))
        | inr r ↦ (
          m,
          zeros (length columns),
          record { wide = w; not_least = h; lowered = λ k p l v e. r k p l v e },
          length-zeros (length columns),
          sym (plus-comm m (zeros (length columns)) ∙ plus-zeros (length columns) m (omega arith)),
        )
      ]

  -- a class has one least monomial
  pub same_least : (p q : Monomial) → length p ≡ length columns → length q ≡ length columns →
      margins d columns p ≡ margins d columns q → IsLeast d columns compare p →
      IsLeast d columns compare q → p ≡ q
  same_least p q w v e h k = by (compare p q) refl
    where
      by : (o : Ordering) → compare p q ≡ o → p ≡ q
      by Less f = absurd (k p w e f)
      by Equal f = order.definite p q w v f
      by Greater f = absurd (h q v (sym e) (order.total.antisymm q p ∙ ap ordering_reverse f))

  -- a rule from a corner to the least is valid
  pub reduced_valid : (rule : Rule) → IsReducedRule d columns compare rule →
      IsValid d columns compare rule
  reduced_valid rule h =
      record {
        left_wide = h.corner.wide;
        right_wide = h.right_wide;
        equal_weight = h.equal_weight;
        down = by (compare rule.0 rule.1) refl;
      }
    where
      by : (o : Ordering) → compare rule.0 rule.1 ≡ o → compare rule.0 rule.1 ≡ Greater
      by Less f = absurd (h.right_least rule.0 h.corner.wide h.equal_weight f)
      by Equal f =
          absurd (h.corner.not_least
          (subst (IsLeast d columns compare)
          (sym (order.definite rule.0 rule.1 h.corner.wide h.right_wide f)) h.right_least))
      by Greater f = f

  -- the rules of the reduced basis are valid
  pub reduced_all_valid : (rules : List Rule) → IsReduced d columns compare rules →
      AreValid d columns compare rules
  reduced_all_valid rules h k rule e = reduced_valid rule (h.sound k rule e)

  -- the reduced rules bring each monomial to the least of its class
  pub reduced_reach : (rules : List Rule) → IsReduced d columns compare rules →
      ReachLeast d columns compare rules
  unfolding LeadsBy
  reduced_reach rules h m p w v e least =
      let valid = reduced_all_valid rules h in
      fix {C = λ m. length m ≡ length columns → margins d columns p ≡ margins d columns m →
      Leads rules m p} (InvImage.wf (rank d columns compare) lt-wf_rel.wf)
      (λ m below w e. elim (least_or_not d columns compare fit order m) [
        | inl q ↦
            step_on m below w e
            (corner_of (suc (sum m)) m (omega arith) w (λ g. g q.0 (q.1).0 (q.1).1 (q.1).2))
        | inr g ↦ here m (same_least m p w v (sym e) g least)
      ]) m w e
    where
      here : (m : Monomial) → m ≡ p → Leads rules m p
      here m g = ([], g)

      step_on : (m : Monomial) →
          ((q : Monomial) → rank d columns compare q < rank d columns compare m →
          length q ≡ length columns → margins d columns p ≡ margins d columns q →
          Leads rules q p) →
          length m ≡ length columns → margins d columns p ≡ margins d columns m → CornerOf m →
          Leads rules m p
      step_on m below w e c =
          let valid = reduced_all_valid rules h in
          let found = h.all c.0 c.2 in
          let next = plus found.1 c.1 in
          let s : Step rules found.0 m next = ((c.0, found.1), c.1, found.2, c.4, refl) in
          let rest =
          below next (step_lowers d columns compare rules fit order valid found.0 m next s w)
          (step_wide d columns compare rules fit order valid found.0 m next s w) (e
          ∙ step_weight d columns compare rules fit order valid found.0 m next s) in
          (found.0 ∷ rest.0, (next, s, rest.1))

  -- a left side that divides a corner is that corner
  divides_corner : (l left rest : Monomial) → IsCorner d columns compare l →
      length left ≡ length columns → NotLeast left → l ≡ plus left rest → left ≡ l
  divides_corner l left rest c w h e =
      let more = minus l left in
      let wide : length more ≡ length columns = length-minus l left ∙ c.wide in
      let is : l ≡ plus left more =
      same l (plus left more) (let a = length-plus left more in let b = c.wide in omega arith)
      (λ i. let a = ap (λ x. at x i) e in
      omega (arith, at-plus left rest i, at-plus left more i, at-minus l left i)) in
      elim (zero_or_place more) [
        | inl r ↦ (
            let one = unit (length columns) r.0 in
            let p = minus l one in
            let high : 0 < at l r.0 = let a = ap (λ x. at x r.0) is in
            let b = at-plus left more r.0 in let g = r.2 in omega arith in
            let lower = minus more one in
            let lw : length lower ≡ length columns = length-minus more one ∙ wide in
            let f : p ≡ plus left lower =
            same p (plus left lower) (let a = length-plus left lower in
            let b = length-minus l one in let g = c.wide in omega arith)
            (λ i. let a = ap (λ x. at x i) is in let b = unit-le (length columns) r.0 i more r.2 in
            omega (
              arith,
              at-plus left more i,
              at-plus left lower i,
              at-minus l one i,
              at-minus more
                  one i,
            )) in
            let k_in : r.0 < length columns = let g = r.1 in omega arith in
            let least =
            c.lowered r.0 p k_in (length-minus l one
            ∙ c.wide) (one_less (length columns) r.0 l c.wide high) in
            absurd (h
            (least_divisor d columns compare fit order left lower w lw
            (subst (IsLeast d columns compare) f least))))
        | inr g ↦
            same left l (w ∙ sym c.wide) (λ i. let a = ap (λ x. at x i) is in let b = g i in
            omega (arith, at-plus left more i))
      ]

  module _ (rules : List Rule) (valid : AreValid d columns compare rules)
      (reach : ReachLeast d columns compare rules) where
    left_not_least : (k : ℕ) (rule : Rule) → slice_get rules k ≡ Some rule → NotLeast rule.0
    left_not_least k rule e h =
        let v = valid k rule e in
        h rule.1 v.right_wide (sym v.equal_weight) (order.total.antisymm rule.1 rule.0
        ∙ ap ordering_reverse v.down)

    -- a monomial is least, or a rule's left side divides it
    first_of_trace : (m : Monomial) → length m ≡ length columns → (p : Monomial) →
        IsLeast d columns compare p → (trace : List ℕ) → LeadsBy rules trace m p →
        IsLeast d columns compare m
        ⊎ ((k : ℕ) × (rule : Rule) × (rest : Monomial) × (slice_get rules k ≡ Some rule)
        × (m ≡ plus rule.0 rest))
    unfolding LeadsBy
    first_of_trace m w p h [] l = inl (subst (IsLeast d columns compare) (sym l) h)
    first_of_trace m w p h (k ∷ trace) l = inr (k, (l.1).0, (l.1).1, (l.1).2, (l.1).3)

    least_or_divided : (m : Monomial) → length m ≡ length columns →
        IsLeast d columns compare m
        ⊎ ((k : ℕ) × (rule : Rule) × (rest : Monomial) × (slice_get rules k ≡ Some rule)
        × (m ≡ plus rule.0 rest))
    least_or_divided m w =
        let p = least_of d columns compare fit order m w in
        let l = reach m p.0 w p.1 p.2 p.3 in
        first_of_trace m w p.0 p.3 l.0 l.1

    pub corner_minimal : (l : Monomial) → IsCorner d columns compare l → IsMinimalLeft rules l
    corner_minimal l c =
        elim (least_or_divided l c.wide) [
          | inl h ↦ absurd (c.not_least h)
          | inr r ↦ (
              let e = divides_corner l (r.1).0 r.2 c ((valid r.0 r.1 r.3).left_wide)
              (left_not_least r.0 r.1 r.3) r.4 in (
                (r.0, (r.1).1, r.3 ∙ ap (λ x. Some (x, (r.1).1)) e),
                (λ k rule rest s w f.
                    divides_corner l rule.0 rest c ((valid k rule s).left_wide)
                    (left_not_least k rule s) f),
              ))
        ]

    pub minimal_corner : (l : Monomial) → IsMinimalLeft rules l → IsCorner d columns compare l
    minimal_corner l h =
        let k = (h.0).0 in
        let rule : Rule = (l, (h.0).1) in
        let v = valid k rule (h.0).2 in
        record {
          wide = v.left_wide;
          not_least = left_not_least k rule (h.0).2;
          lowered = λ j p i w e. elim (least_or_divided p w) [
            | inl g ↦ g
            | inr r ↦ absurd (
                let one = unit (length columns) j in
                let left = (r.1).0 in
                let rest = minus l left in
                let lw = v.left_wide in
                let f : l ≡ plus left rest =
                same l (plus left rest)
                (let a = length-plus left rest in let b = length-minus l left in
                let g = (valid r.0 r.1 r.3).left_wide in omega arith)
                (λ i. let a = ap (λ x. at x i) e in let b = ap (λ x. at x i) r.4 in
                omega (
                  arith,
                  at-plus p one i,
                  at-plus left r.2 i,
                  at-plus left rest i,
                  at-minus l
                      left i,
                )) in
                let g = h.1 r.0 r.1 rest r.3 (length-minus l left) f in
                let a = ap (λ x. at x j) e in let b = ap (λ x. at x j) r.4 in
                let z = ap (λ x. at x j) g in
                let u = unit-at (length columns) j i in
                let s = at-plus p one j in let t = at-plus left r.2 j in
                let contra : ⊥ = omega arith in
                contra)
          ];
        }
