-- Newman's lemma. Each step goes down within a class of equal weight, and a class is finite: its
-- members are the fiber of (identity | A). So the number of members below a monomial falls with
-- each step, and induction over it carries local confluence to confluence.
use Rattle.std.proofs.Common.{Bool, List, [], ap, arith, cond, inl, inr, length, refl, subst, suc, sym, true, ℕ, ◌+◌, ◌<◌, ◌∙◌, ◌∷◌, ◌≡◌, ◌≤◌}
use Rattle.std.proofs.lemmas.Cmp.{tied_itself}
use Rattle.std.specs.Ordering.{is_lt, ordering_reverse}
use Rattle.std.specs.declared.cmp.Ordering.TheVariants.{Equal, Greater, Less}
use Rattle.std.specs.declared.cmp.Ordering.{Ordering}
use lib.WfN.{lt-wf_rel}
use mathlib.Core.WellFounded.InvImage
use mathlib.Core.WellFounded.{fix}
use Rattle.mb_matrix.proofs.FillLaws.{fill-has, length-margins, margins-plus}
use Rattle.mb_matrix.specs.Fiber.{AreColumns, fill, margins}
use Rattle.mb_order.proofs.WeightLaws.{symbols-fit, symbols-length}
use Rattle.mb_order.specs.Monomial.{Monomial}
use Rattle.mb_order.specs.Order.{IsOrder}
use Rattle.mb_order.specs.Peak.{PairsMeet}
use Rattle.mb_order.specs.Rewriting.{AreValid, IsConfluent, IsLocal, Leads, LeadsBy, Meet, Rule, Step}
use Rattle.mb_order.specs.Weight.{symbols}
use Rattle.mb_rules.proofs.LocalConfluence.{alone, critical_pairs}
use Rattle.mb_tables.proofs.VectorLaws.{at-minus, at-plus, length-minus, length-plus, same}
use Rattle.mb_tables.specs.Lists.{In}
use Rattle.mb_tables.specs.Vectors.{at, minus, plus}

-- the test says that it is less
pub lt-Less : (r : Ordering) → is_lt r ≡ true → r ≡ Less
lt-Less Less e = refl
lt-Less Equal e = cc
lt-Less Greater e = cc

-- less is not equal
Less-not_Equal : Less ≡ Equal → ⊥
Less-not_Equal e = cc

-- how many of the list pass a test
count : (List ℕ → Bool) → List (List ℕ) → ℕ
count p [] = 0
count p (x ∷ xs) = cond (p x) (suc (count p xs)) (count p xs)

-- where each that passes one test passes another, no more pass the first
count-le : (p q : List ℕ → Bool) (xs : List (List ℕ)) →
    ((x : List ℕ) → In x xs → p x ≡ true → q x ≡ true) → count p xs ≤ count q xs
unfolding count In
count-le p q [] h = omega arith
count-le p q (x ∷ xs) h =
    let ih = count-le p q xs (λ y m. h y (inr m)) in
    let here = h x (inl refl) in
    grind arith

-- and fewer do, where a member passes the second alone
count-fewer : (p q : List ℕ → Bool) (xs : List (List ℕ)) (z : List ℕ) →
    ((x : List ℕ) → In x xs → p x ≡ true → q x ≡ true) → In z xs → (p z ≡ true → ⊥) → q z ≡ true →
    count p xs < count q xs
unfolding count In
count-fewer p q [] z h m not_p is_q = absurd m
count-fewer p q (x ∷ xs) z h (inl e) not_p is_q =
    let le = count-le p q xs (λ y m. h y (inr m)) in
    let a : q x ≡ true = subst (λ y. q y ≡ true) e is_q in
    let b : p x ≡ true → ⊥ = subst (λ y. p y ≡ true → ⊥) e not_p in
    grind arith
count-fewer p q (x ∷ xs) z h (inr m) not_p is_q =
    let ih = count-fewer p q xs z (λ y m. h y (inr m)) m not_p is_q in
    let here = h x (inl refl) in
    grind arith

-- no more pass a test than there are
count-within : (p : List ℕ → Bool) (xs : List (List ℕ)) → count p xs ≤ length xs
unfolding count
count-within p [] = omega arith
count-within p (x ∷ xs) = let ih = count-within p xs in grind arith

-- how many monomials of its class lie below a monomial: a measure for whatever goes down within a
-- class
pub rank : ℕ → List (List ℕ) → (Monomial → Monomial → Ordering) → Monomial → ℕ
rank d columns compare m = count (λ x. is_lt (compare x m)) (fill columns (margins d columns m))

-- there are no more of them than the class has members
pub rank_within : (d : ℕ) (columns : List (List ℕ)) (compare : Monomial → Monomial → Ordering)
    (m : Monomial) → rank d columns compare m ≤ length (fill columns (margins d columns m))
unfolding rank
rank_within d columns compare m =
    count-within (λ x. is_lt (compare x m)) (fill columns (margins d columns m))

-- what leads to what leads on leads there
pub leads_then : (rules : List Rule) (first : List ℕ) (a b c : Monomial) → LeadsBy rules first a b →
    Leads rules b c → Leads rules a c
unfolding LeadsBy
leads_then rules [] a b c h k = subst (λ x. Leads rules x c) (sym h) k
leads_then rules (i ∷ first) a b c h k =
    let rest = leads_then rules first h.0 b c h.2 k in
    (i ∷ rest.0, (h.0, h.1, rest.1))

module _ (d : ℕ) (columns : List (List ℕ)) (compare : Monomial → Monomial →
    Ordering) (rules : List Rule) (fit : AreColumns d columns)
    (order : IsOrder (length columns) compare) (valid : AreValid d columns compare rules) where
  -- a step keeps the number of symbols
  pub step_wide : (k : ℕ) (m p : Monomial) → Step rules k m p → length m ≡ length columns →
      length p ≡ length columns
  step_wide k m p s w =
      let v = valid k s.0 s.2 in
      let a = v.left_wide in let b = v.right_wide in
      let e = ap length s.3 ∙ length-plus (s.0).0 s.1 in
      let f = ap length s.4 ∙ length-plus (s.0).1 s.1 in
      omega arith

  -- a step keeps the weight
  pub step_weight : (k : ℕ) (m p : Monomial) → Step rules k m p →
      margins d columns m ≡ margins d columns p
  step_weight k m p s =
      let v = valid k s.0 s.2 in
      ap (margins d columns) s.3 ∙ margins-plus d columns (s.0).0 s.1 fit
      ∙ ap (λ x. plus x (margins d columns s.1)) v.equal_weight
      ∙ sym (margins-plus d columns (s.0).1 s.1 fit) ∙ ap (margins d columns) (sym s.4)

  -- a step goes down
  pub step_down : (k : ℕ) (m p : Monomial) → Step rules k m p → length m ≡ length columns →
      compare p m ≡ Less
  step_down k m p s w =
      let v = valid k s.0 s.2 in
      let rest = minus m (s.0).0 in
      let a = v.left_wide in let b = v.right_wide in
      let e : m ≡ plus (s.0).0 rest =
      same m (plus (s.0).0 rest)
      (omega (arith, length-plus (s.0).0 rest, length-minus m (s.0).0))
      (λ k. let g = ap (λ x. at x k) s.3 in
      omega (arith, at-plus (s.0).0 s.1 k, at-plus (s.0).0 rest k, at-minus m (s.0).0 k)) in
      let f : p ≡ plus (s.0).1 rest = s.4 ∙ alone (s.0).0 (s.0).1 m s.1 rest (a ∙ sym b) s.3 e in
      let h = order.added (s.0).1 (s.0).0 rest b a (length-minus m (s.0).0 ∙ w) in
      let low : compare (s.0).1 (s.0).0 ≡ Less = order.total.antisymm (s.0).1 (s.0).0
      ∙ ap ordering_reverse v.down in
      subst (λ x. compare p x ≡ Less) (sym e)
      (subst (λ x. compare x (plus (s.0).0 rest) ≡ Less) (sym f) (h ∙ low))

  -- of two members of a class the lower has fewer below it
  pub lowers : (m p : Monomial) → length p ≡ length columns →
      margins d columns p ≡ margins d columns m → compare p m ≡ Less →
      rank d columns compare p < rank d columns compare m
  unfolding rank
  lowers m p pw e pm =
      let b = margins d columns m in
      let high : length b ≡ d = length-margins d columns m fit in
      let less_many =
      count-fewer (λ x. is_lt (compare x p)) (λ x. is_lt (compare x m)) (fill columns b) p
      (λ x i l. ap is_lt (order.total.trans x p m (lt-Less (compare x p) l) pm))
      (fill-has d columns fit p b high pw e)
      (λ l. Less-not_Equal (sym (lt-Less (compare p p) l) ∙ tied_itself order.total p))
      (ap is_lt pm) in
      subst (λ c.
      count (λ x. is_lt (compare x p)) (fill columns c) < count (λ x. is_lt (compare x m))
      (fill columns b)) (sym e) less_many

  -- a step lowers the rank
  pub step_lowers : (k : ℕ) (m p : Monomial) → Step rules k m p → length m ≡ length columns →
      rank d columns compare p < rank d columns compare m
  step_lowers k m p s w =
      lowers m p (step_wide k m p s w) (sym (step_weight k m p s)) (step_down k m p s w)

  module _ (local : IsLocal rules) where
    abbrev At : Monomial → Type 0
    At m =
        length m ≡ length columns → (a b : Monomial) → Leads rules m a → Leads rules m b →
        Meet rules a b

    from : (m : Monomial) →
        ((p : Monomial) → rank d columns compare p < rank d columns compare m → At p) →
        length m ≡ length columns → (a b : Monomial) (is js : List ℕ) → LeadsBy rules is m a →
        LeadsBy rules js m b → Meet rules a b
    unfolding LeadsBy
    from m below w a b [] js h k = (b, subst (λ x. Leads rules x b) h (js, k), ([], refl))
    from m below w a b (i ∷ is) [] h k = (a, ([], refl), subst (λ x. Leads rules x a) k (i ∷ is, h))
    from m below w a b (i ∷ is) (j ∷ js) h k =
        let met = local m h.0 k.0 i j h.1 k.1 in
        let left =
        below h.0 (step_lowers i m h.0 h.1 w) (step_wide i m h.0 h.1 w) a met.0 (is, h.2) met.1 in
        let lifted : Leads rules k.0 left.0 =
        leads_then rules (met.2).0 k.0 met.0 left.0 (met.2).1 left.2 in
        let right =
        below k.0 (step_lowers j m k.0 k.1 w) (step_wide j m k.0 k.1 w) left.0 b lifted (js, k.2) in
        (right.0, leads_then rules (left.1).0 a left.0 right.0 (left.1).1 right.1, right.2)

    pub newman : IsConfluent (length columns) rules
    newman m a b w h k =
        fix {C = At} (InvImage.wf (rank d columns compare) lt-wf_rel.wf)
        (λ m below w a b h k. from m below w a b h.0 k.0 h.1 k.1) m w a b h k

-- over all symbols of a matrix: where the critical pairs meet, the rules are confluent
pub symbols_confluent : (d : ℕ) (columns : List (List ℕ)) (compare : Monomial → Monomial →
    Ordering) (rules : List Rule) → AreColumns d columns → IsOrder (d + length columns) compare →
    AreValid d (symbols d columns) compare rules → PairsMeet rules →
    IsConfluent (length (symbols d columns)) rules
symbols_confluent d columns compare rules fit order valid pairs =
    newman d (symbols d columns) compare rules (symbols-fit d columns fit)
    (subst (λ n. IsOrder n compare) (sym (symbols-length d columns)) order) valid
    (critical_pairs d (symbols d columns) compare rules valid pairs)
