-- Critical pairs. Two rules that fit one monomial either overlap, and then the monomial is their
-- peak times a cofactor, which the steps keep; or they share no symbol, and each fits after the
-- other.
use Rattle.std.proofs.Common.{Bool, List, Some, [], ap, arith, false, inl, inr, length, max, refl, slice_get, subst, sym, true, ℕ, ◌<◌, ◌∙◌, ◌∷◌, ◌≡◌, ◌⊎◌}
use Rattle.std.specs.declared.cmp.Ordering.{Ordering}
use Rattle.mb_order.specs.Monomial.{Monomial}
use Rattle.mb_order.specs.Peak.{PairsMeet}
use Rattle.mb_order.specs.Rewriting.{AreValid, IsLocal, LeadsBy, Meet, Rule, Step, made}
use Rattle.mb_tables.proofs.VectorLaws.{at-greater, at-minus, at-plus, length-greater, length-minus, length-plus, plus-assoc, plus-comm, same, shares-no}
use Rattle.mb_tables.specs.Vectors.{at, greater, minus, plus, shares}

-- a step stays one when a monomial is added
pub step_plus : (rules : List Rule) (k : ℕ) (m p more : Monomial) → Step rules k m p →
    Step rules k (plus m more) (plus p more)
step_plus rules k m p more s = (
  s.0,
  plus s.1 more,
  s.2,
  ap (λ x. plus x more) s.3
      ∙ plus-assoc (s.0).0 s.1 more,
  ap (λ x. plus x more) s.4 ∙ plus-assoc (s.0).1 s.1 more,
)

-- and so does a list of steps
pub leads_plus : (rules : List Rule) (trace : List ℕ) (m p more : Monomial) →
    LeadsBy rules trace m p → LeadsBy rules trace (plus m more) (plus p more)
unfolding LeadsBy
leads_plus rules [] m p more h = ap (λ x. plus x more) h
leads_plus rules (k ∷ trace) m p more h =
    (plus h.0 more, step_plus rules k m h.0 more h.1, leads_plus rules trace h.0 p more h.2)

-- and so does meeting
pub meet_plus : (rules : List Rule) (a b more : Monomial) → Meet rules a b →
    Meet rules (plus a more) (plus b more)
meet_plus rules a b more h = (
  plus h.0 more,
  ((h.1).0, leads_plus rules (h.1).0 a h.0 more (h.1).1),
  ((h.2).0, leads_plus rules (h.2).0 b h.0 more (h.2).1),
)

-- meeting goes both ways
pub meet_swap : (rules : List Rule) (a b : Monomial) → Meet rules a b → Meet rules b a
meet_swap rules a b h = (h.0, h.2, h.1)

-- equal monomials meet
pub meet_same : (rules : List Rule) (a b : Monomial) → a ≡ b → Meet rules a b
unfolding LeadsBy
meet_same rules a b e = (b, ([], e), ([], refl))

-- where the peak is the greater of both left sides, a step from m is the step from the peak with
-- what the peak leaves of m added
through_peak : (left right other peak m rest other_rest : Monomial) →
    length left ≡ length right → length other ≡ length right → length peak ≡ length right →
    ((k : ℕ) → at peak k ≡ max (at left k) (at other k)) →
    m ≡ plus left rest → m ≡ plus other other_rest →
    plus (plus right (minus peak left)) (minus m peak) ≡ plus right rest
through_peak left right other peak m rest other_rest wide other_wide peak_wide is_peak e f =
    same (plus (plus right (minus peak left)) (minus m peak)) (plus right rest)
    (let a = ap length e in let b = length-plus left rest in
    omega (arith, length-plus, length-minus))
    (λ k. let a = ap (λ x. at x k) e in let b = ap (λ x. at x k) f in let c = at-plus left rest k in
    let d = at-plus other other_rest k in let g = is_peak k in omega (arith, at-plus, at-minus))

-- a step by another rule, where the left sides share no symbol
across : (left right other m rest other_rest : Monomial) →
    length left ≡ length right → length other ≡ length right →
    ((k : ℕ) → (at left k ≡ 0) ⊎ (at other k ≡ 0)) →
    m ≡ plus left rest → m ≡ plus other other_rest →
    plus right rest ≡ plus other (plus right (minus (minus m left) other))
across left right other m rest other_rest wide other_wide apart e f =
    same (plus right rest) (plus other (plus right (minus (minus m left) other)))
    (let a = ap length e in let b = length-plus left rest in
    omega (arith, length-plus, length-minus))
    (λ k. let a = ap (λ x. at x k) e in let b = ap (λ x. at x k) f in let c = at-plus left rest k in
    let d = at-plus other other_rest k in let g = apart k in omega (arith, at-plus, at-minus))

-- two left sides that share no symbol may be taken out in either order
minus_swap : (m u v : List ℕ) → minus (minus m u) v ≡ minus (minus m v) u
minus_swap m u v =
    same (minus (minus m u) v) (minus (minus m v) u) (omega (arith, length-minus))
    (λ k. omega (arith, at-minus))

-- one rule makes one monomial of m
pub alone : (left right m rest rest2 : Monomial) → length left ≡ length right → m ≡ plus left rest →
    m ≡ plus left rest2 → plus right rest ≡ plus right rest2
alone left right m rest rest2 wide e f =
    same (plus right rest) (plus right rest2)
    (let a = ap length e in let b = length-plus left rest in let c = ap length f in
    let d = length-plus left rest2 in omega (arith, length-plus))
    (λ k. let a = ap (λ x. at x k) e in let b = ap (λ x. at x k) f in let c = at-plus left rest k in
    let d = at-plus left rest2 k in omega (arith, at-plus))

-- rules of one place are one
cc_rule : (rules : List Rule) (i j : ℕ) (p q : Rule) → i ≡ j → slice_get rules i ≡ Some p →
    slice_get rules j ≡ Some q → p ≡ q
cc_rule rules i j p q e f g = cc

module _ (d : ℕ) (columns : List (List ℕ)) (compare : Monomial → Monomial →
    Ordering) (rules : List Rule) (valid : AreValid d columns compare rules)
    (pairs : PairsMeet rules) where
  -- left sides that share a symbol, the lower rule first
  overlap : (i j : ℕ) (m a b : Monomial) → i < j → (s : Step rules i m a) (t : Step rules j m b) →
      shares (s.0).0 (t.0).0 ≡ true → Meet rules a b
  overlap i j m a b low s t e =
      let v = valid i s.0 s.2 in
      let w = valid j t.0 t.2 in
      let peak = greater (s.0).0 (t.0).0 in
      let more = minus m peak in
      let met =
      meet_plus rules (made s.0 peak) (made t.0 peak) more (pairs i j s.0 t.0 low s.2 t.2 e) in
      let wide : length peak ≡ length columns = let x = v.left_wide in let y = w.left_wide in
      omega (arith, length-greater) in
      let x : plus (made s.0 peak) more ≡ a =
      through_peak (s.0).0 (s.0).1 (t.0).0 peak m s.1 t.1 (v.left_wide
      ∙ sym v.right_wide) (w.left_wide ∙ sym v.right_wide) (wide
      ∙ sym v.right_wide) (at-greater (s.0).0 (t.0).0) s.3 t.3 ∙ sym s.4 in
      let y : plus (made t.0 peak) more ≡ b =
      through_peak (t.0).0 (t.0).1 (s.0).0 peak m t.1 s.1 (w.left_wide
      ∙ sym w.right_wide) (v.left_wide ∙ sym w.right_wide) (wide ∙ sym w.right_wide) (λ k. let g =
      at-greater (s.0).0 (t.0).0 k in omega arith) t.3 s.3 ∙ sym t.4 in
      subst (λ z. Meet rules a z) y (subst (λ z. Meet rules z (plus (made t.0 peak) more)) x met)

  -- left sides that share none: the other rule still fits after each
  apart : (i j : ℕ) (m a b : Monomial) (s : Step rules i m a) (t : Step rules j m b) →
      shares (s.0).0 (t.0).0 ≡ false → Meet rules a b
  unfolding LeadsBy
  apart i j m a b s t e =
      let v = valid i s.0 s.2 in
      let w = valid j t.0 t.2 in
      let none = shares-no (s.0).0 (t.0).0 e in
      let left = minus (minus m (s.0).0) (t.0).0 in
      let x : a ≡ plus (t.0).0 (plus (s.0).1 left) =
      s.4 ∙ across (s.0).0 (s.0).1 (t.0).0 m s.1 t.1 (v.left_wide ∙ sym v.right_wide) (w.left_wide
      ∙ sym v.right_wide) none s.3 t.3 in
      let y : b ≡ plus (s.0).0 (plus (t.0).1 left) =
      t.4 ∙ across (t.0).0 (t.0).1 (s.0).0 m t.1 s.1 (w.left_wide ∙ sym w.right_wide) (v.left_wide
      ∙ sym w.right_wide) (λ k. let g = none k in grind arith) t.3 s.3
      ∙ ap (λ z. plus (s.0).0 (plus (t.0).1 z)) (minus_swap m (t.0).0 (s.0).0) in
      let z : plus (t.0).1 (plus (s.0).1 left) ≡ plus (s.0).1 (plus (t.0).1 left) =
      sym (plus-assoc (t.0).1 (s.0).1 left) ∙ ap (λ k. plus k left) (plus-comm (t.0).1 (s.0).1)
      ∙ plus-assoc (s.0).1 (t.0).1 left in (
        plus (s.0).1 (plus (t.0).1 left),
        (j ∷ [], (plus (s.0).1 (plus (t.0).1 left), (t.0, plus (s.0).1 left, t.2, x, sym z), refl)),
        (i ∷ [], (plus (s.0).1 (plus (t.0).1 left), (s.0, plus (t.0).1 left, s.2, y, refl), refl)),
      )

  -- two left sides share a symbol or do not
  shares_or_not : (i j : ℕ) (m a b : Monomial) → i < j →
      (s : Step rules i m a) (t : Step rules j m b) → (x : Bool) → shares (s.0).0 (t.0).0 ≡ x →
      Meet rules a b
  shares_or_not i j m a b low s t true e = overlap i j m a b low s t e
  shares_or_not i j m a b low s t false e = apart i j m a b s t e

  -- a rule by its place
  one_rule : (i j : ℕ) (m a b : Monomial) → i ≡ j → (s : Step rules i m a) (t : Step rules j m b) →
      Meet rules a b
  one_rule i j m a b e s t =
      let v = valid i s.0 s.2 in
      let r : t.0 ≡ s.0 = cc_rule rules j i t.0 s.0 (sym e) t.2 s.2 in
      let f : m ≡ plus (s.0).0 t.1 = t.3 ∙ ap (λ (x : Rule). plus x.0 t.1) r in
      let g : b ≡ plus (s.0).1 t.1 = t.4 ∙ ap (λ (x : Rule). plus x.1 t.1) r in
      meet_same rules a b (s.4
      ∙ alone (s.0).0 (s.0).1 m s.1 t.1 (v.left_wide ∙ sym v.right_wide) s.3 f ∙ sym g)

  -- where the critical pairs meet, steps from one monomial meet
  pub critical_pairs : IsLocal rules
  critical_pairs m a b i j s t =
      let cases : (i < j) ⊎ ((i ≡ j) ⊎ (j < i)) = grind arith in
      elim cases [
        | inl h ↦ shares_or_not i j m a b h s t (shares (s.0).0 (t.0).0) refl
        | inr h ↦ elim h [
          | inl e ↦ one_rule i j m a b e s t
          | inr k ↦
              meet_swap rules b a (shares_or_not j i m b a k t s (shares (t.0).0 (s.0).0) refl)
        ]
      ]
