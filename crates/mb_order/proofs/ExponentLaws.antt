-- Lists of exponents, place by place: least common multiples and what a rule makes.
use Rattle.std.proofs.Common.{Bool, List, [], ap, arith, drop, false, inl, inr, length, max, suc, sym, take, true, zero, ℕ, ◌++◌, ◌+◌, ◌-◌, ◌<◌, ◌∷◌, ◌≡◌, ◌≤◌, ◌∙◌, ◌⊎◌}
use Rattle.std.proofs.lemmas.List.{get_or_past}
use Rattle.std.proofs.lemmas.Nat.Bits.{bit_at_or}
use Rattle.std.specs.Bool.{OnFalse, OnTrue}
use Rattle.std.specs.Int.Bits.{bit_or}
use Rattle.mb_order.specs.Monomial.{Exponents, HaveOneShape}
use Rattle.mb_order.specs.Rewriting.{made}
use Rattle.mb_order.specs.Symbols.{IsSetOf}
use Rattle.mb_tables.proofs.VectorLaws.{at-greater, at-minus, at-plus, length-greater, length-minus, length-plus, same, within-at, within-yes}
use Rattle.mb_tables.specs.Vectors.{at, greater, minus, within}

-- a list of the greater exponents, place by place, is the least common multiple
pub greater-each : (w a b : List ℕ) → length w ≡ length a → length a ≡ length b →
    ((k : ℕ) → k < length a → at w k ≡ max (at a k) (at b k)) → w ≡ greater a b
greater-each w a b e f h = same w (greater a b) (omega (arith, length-greater a b)) (λ k.
    let g = at-greater a b k in
    let cases : (k < length a) ⊎ (length a ≤ k) = grind arith in
    elim cases [
      | inl l ↦ (let i = h k l in omega arith)
      | inr l ↦
          (let x = get_or_past w k 0 (omega arith) in let y = get_or_past a k 0 l in
          let z = get_or_past b k 0 (omega arith) in omega arith)
    ])

-- a list is within itself
pub within-self : (a : List ℕ) → within a a ≡ true
within-self a = within-yes a a (λ k. omega arith)

-- two lists of one length, each of them within the other, are the same
pub within-both : (a b : List ℕ) → length a ≡ length b → within a b ≡ true → within b a ≡ true →
    a ≡ b
within-both a b l e f =
    same a b l (λ k. let x = within-at a b e k in let y = within-at b a f k in omega arith)

-- two monomials of one shape that divide each other are the same
pub divides-both : (a b : Exponents) → HaveOneShape a b → within a.list b.list ≡ true →
    within b.list a.list ≡ true → a ≡ b
divides-both a b shape e f =
    ap (λ n. record { margins = n; list = a.list }) shape.margins
    ∙ ap (λ l. record { margins = b.margins; list = l })
    (within-both a.list b.list shape.symbols e f)

-- where two monomials are the same, the one divides the other
pub divides-same : (a b : Exponents) → a ≡ b → within a.list b.list ≡ true
divides-same a b e = ap (λ (m : Exponents). within m.list b.list) e ∙ within-self b.list

-- the test of the code: each divides the other
pub same-by : (a b : Exponents) (test : Bool) → HaveOneShape a b → within a.list b.list ≡ true →
    test ≡ within b.list a.list → OnTrue test (a ≡ b)
same-by a b true shape e f = divides-both a b shape e (sym f)
same-by a b false shape e f = tt

-- where the second doesn't divide the first, they differ
pub differs-by : (a b : Exponents) (test : Bool) → test ≡ within b.list a.list →
    OnFalse test (a ≡ b → ⊥)
differs-by a b true f = tt
differs-by a b false f = λ e. let divides = divides-same b a (sym e) in absurd cc

-- both sets together are the set of the least common multiple
pub greater-set : (s t : ℕ) (w a b : List ℕ) → w ≡ greater a b → IsSetOf s a → IsSetOf t b →
    IsSetOf (bit_or s t) w
greater-set s t w a b e h g k =
    let x = h k in let y = g k in let z = at-greater a b k in let o = bit_at_or s t k in
    let f = ap (λ u. at u k) e in
    omega arith

-- a slice of a monomial's exponents has at each place what the monomial has there
pub at-seen : (slice : List ℕ) (inside seen : Exponents) (k : ℕ) → slice ≡ inside.list →
    inside ≡ seen → at slice k ≡ at seen.list k
at-seen slice inside seen k e f = ap (λ u. at u k) e ∙ ap (λ (x : Exponents). at x.list k) f

-- what a rule makes, at a place
pub made-at : (l r m : List ℕ) (k : ℕ) → at (made (l, r) m) k ≡ at r k + (at m k - at l k)
made-at l r m k = omega (arith, at-plus r (minus m l) k, at-minus m l k)

-- what a rule makes is as long as the monomial
pub length-made : (l r m : List ℕ) → length r ≡ length m → length (made (l, r) m) ≡ length m
length-made l r m e = omega (arith, length-plus r (minus m l), length-minus m l)

-- a list of what a rule makes, place by place, is what it makes
pub made-each : (w l r m : List ℕ) → length w ≡ length m → length l ≡ length m →
    length r ≡ length m →
    ((k : ℕ) → k < length m → at w k ≡ at r k + (at m k - at l k)) → w ≡ made (l, r) m
made-each w l r m e f g h =
    same w (made (l, r) m) (let x = length-made l r m g in omega arith) (λ k.
    let a = made-at l r m k in
    let cases : (k < length m) ⊎ (length m ≤ k) = grind arith in
    elim cases [
      | inl x ↦ (let i = h k x in omega arith)
      | inr x ↦
          (let p = get_or_past w k 0 (omega arith) in let q = get_or_past m k 0 x in
          let s = get_or_past r k 0 (omega arith) in omega arith)
    ])

-- writing a whole list over one of its length
pub written : (n : ℕ) (new old : List ℕ) → length new ≡ length old → n ≡ length old →
    take n (new ++ drop (length new) old) ≡ new
written n [] [] e f = let g : n ≡ 0 = omega arith in ap (λ k. take k []) g
written n [] (y ∷ old) e f = absurd (omega arith)
written n (x ∷ new) [] e f = absurd (omega arith)
written zero (x ∷ new) (y ∷ old) e f = absurd (omega arith)
written (suc n) (x ∷ new) (y ∷ old) e f =
    ap (λ u. x ∷ u) (written n new old (omega arith) (omega arith))
