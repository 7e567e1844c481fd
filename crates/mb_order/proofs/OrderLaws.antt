-- The two orders are monomial orders, and eliminate the margins' symbols.
use Rattle.std.proofs.Common.{List, [], ap, arith, drop, length, length-drop, length-take, refl, reverse, suc, sum, sym, take, true, zero, ℕ, ◌++◌, ◌+◌, ◌∙◌, ◌∷◌, ◌≡◌}
use Rattle.std.proofs.Math.ListN.{take-append-drop}
use Rattle.std.proofs.lemmas.Bool.Decides.{nat_tests}
use Rattle.std.proofs.lemmas.Cmp.{back_total, nat_cmp_total, nat_list_cmp_total, on_total, then_total}
use Rattle.std.proofs.lemmas.List.Sums.{sum_by-cons}
use Rattle.std.proofs.lemmas.List.{length-reverse, reverse-reverse}
use Rattle.std.specs.Cmp.Lexicographic.{slice_cmp, texts_ties}
use Rattle.std.specs.Cmp.{IsTotalOrder}
use Rattle.std.specs.Ordering.{is_eq, nat_cmp, ordering_then}
use Rattle.std.specs.declared.cmp.Ordering.TheVariants.{Equal, Greater, Less}
use Rattle.std.specs.declared.cmp.Ordering.{Ordering}
use lib.Pointwise.{bytes_decides}
use mathlib.Core.List.{reverse_aux}
use Rattle.mb_order.specs.MarginFree.{Eliminates, margin_free}
use Rattle.mb_order.specs.Monomial.{Monomial}
use Rattle.mb_order.specs.Order.{IsOrder, cells_cmp, graded, lexicographic, monomial_cmp}
use Rattle.mb_order.specs.declared.order.Order.TheVariants.{Grevlex, Lex}
use Rattle.mb_order.specs.declared.order.Order.{Order}
use Rattle.mb_tables.proofs.VectorLaws.{drop-plus, sum-plus, take-plus}
use Rattle.mb_tables.specs.Vectors.{all_zero, plus}

-- less is not equal
Less-not_Equal : Less ≡ Equal → ⊥
Less-not_Equal e = cc

-- greater is not equal
Greater-not_Equal : Greater ≡ Equal → ⊥
Greater-not_Equal e = cc

-- greater is not less
Greater-not_Less : Greater ≡ Less → ⊥
Greater-not_Less e = cc

-- of three tests the first that differs decides, however they are grouped
then_then : (r s t : Ordering) →
    ordering_then r (ordering_then s t) ≡ ordering_then (ordering_then r s) t
then_then Less s t = refl
then_then Equal s t = refl
then_then Greater s t = refl

-- the lexicographic order is total
lexicographic-total : IsTotalOrder lexicographic
lexicographic-total = nat_list_cmp_total

-- the graded order is total
graded-total : IsTotalOrder graded
graded-total =
    then_total (on_total sum nat_cmp_total) (back_total (on_total reverse nat_list_cmp_total))

-- the order of the cells' exponents is total
cells-total : (order : Order) → IsTotalOrder (cells_cmp order)
cells-total Lex = lexicographic-total
cells-total Grevlex = graded-total

-- the order of monomials is total
monomial-total : (order : Order) (d : ℕ) → IsTotalOrder (monomial_cmp order d)
unfolding monomial_cmp
monomial-total order d =
    then_total (on_total (take d) graded-total) (on_total (drop d) (cells-total order))

-- numbers compare as before when one number is added to both
nat_cmp-plus : (x y z : ℕ) → nat_cmp (x + z) (y + z) ≡ nat_cmp x y
nat_cmp-plus x y z = grind (arith, nat_tests)

-- lists compare as before when one list is added to both
lexicographic-plus : (a b rest : List ℕ) → length a ≡ length b → length rest ≡ length a →
    slice_cmp nat_cmp (plus a rest) (plus b rest) ≡ slice_cmp nat_cmp a b
unfolding plus
lexicographic-plus [] [] [] e f = refl
lexicographic-plus [] [] (z ∷ rest) e f = absurd (omega arith)
lexicographic-plus [] (y ∷ b) rest e f = absurd (omega arith)
lexicographic-plus (x ∷ a) [] rest e f = absurd (omega arith)
lexicographic-plus (x ∷ a) (y ∷ b) [] e f = absurd (omega arith)
lexicographic-plus (x ∷ a) (y ∷ b) (z ∷ rest) e f = let g = nat_cmp-plus x y z in
    let h = lexicographic-plus a b rest (omega arith) (omega arith) in cc

-- a sum turned round is the sum of both turned round
reverse_aux-plus : (a b r s : List ℕ) → length a ≡ length b →
    reverse_aux (plus a b) (plus r s) ≡ plus (reverse_aux a r) (reverse_aux b s)
unfolding plus
reverse_aux-plus [] [] r s e = refl
reverse_aux-plus [] (y ∷ b) r s e = absurd (omega arith)
reverse_aux-plus (x ∷ a) [] r s e = absurd (omega arith)
reverse_aux-plus (x ∷ a) (y ∷ b) r s e = reverse_aux-plus a b (x ∷ r) (y ∷ s) (omega arith)

-- the graded order is kept by sums
graded-plus : (a b rest : List ℕ) → length a ≡ length b → length rest ≡ length a →
    graded (plus a rest) (plus b rest) ≡ graded a b
unfolding plus
graded-plus a b rest e f =
    let s = sum-plus a rest in
    let t = sum-plus b rest in
    let degree : nat_cmp (sum (plus a rest)) (sum (plus b rest)) ≡ nat_cmp (sum a) (sum b) =
    ap (λ n. nat_cmp n (sum (plus b rest))) s ∙ ap (λ n. nat_cmp (sum a + sum rest) n) t
    ∙ nat_cmp-plus (sum a) (sum b) (sum rest) in
    let back_a : reverse (plus a rest) ≡ plus (reverse a) (reverse rest) =
    reverse_aux-plus a rest [] [] (sym f) in
    let back_b : reverse (plus b rest) ≡ plus (reverse b) (reverse rest) =
    reverse_aux-plus b rest [] [] (sym e ∙ sym f) in
    let last : slice_cmp nat_cmp (reverse (plus b rest)) (reverse (plus a rest))
    ≡ slice_cmp nat_cmp (reverse b) (reverse a) =
    ap (λ x. slice_cmp nat_cmp x (reverse (plus a rest))) back_b
    ∙ ap (λ x. slice_cmp nat_cmp (plus (reverse b) (reverse rest)) x) back_a
    ∙ lexicographic-plus (reverse b) (reverse a) (reverse rest) (length-reverse b ∙ sym e
    ∙ sym (length-reverse a)) (length-reverse rest ∙ f ∙ e ∙ sym (length-reverse b)) in
    ap (λ o.
    ordering_then o (slice_cmp nat_cmp (reverse (plus b rest)) (reverse (plus a rest)))) degree
    ∙ ap (ordering_then (nat_cmp (sum a) (sum b))) last

-- the order of the cells' exponents is kept by sums
cells-plus : (order : Order) (a b rest : List ℕ) → length a ≡ length b → length rest ≡ length a →
    cells_cmp order (plus a rest) (plus b rest) ≡ cells_cmp order a b
cells-plus Lex a b rest e f = lexicographic-plus a b rest e f
cells-plus Grevlex a b rest e f = graded-plus a b rest e f

-- fronts of lists of one length have one length
same_front : (d : ℕ) (u v : List ℕ) → length u ≡ length v → length (take d u) ≡ length (take d v)
same_front d u v e = simp length-take (omega arith)

-- backs of lists of one length have one length
same_back : (d : ℕ) (u v : List ℕ) → length u ≡ length v → length (drop d u) ≡ length (drop d v)
same_back d u v e = simp length-drop (omega arith)

-- the order of monomials is kept by sums
monomial-plus : (order : Order) (d : ℕ) (a b rest : Monomial) → length a ≡ length b →
    length rest ≡ length a →
    monomial_cmp order d (plus a rest) (plus b rest) ≡ monomial_cmp order d a b
unfolding monomial_cmp
monomial-plus order d a b rest e f =
    let front : graded (take d (plus a rest)) (take d (plus b rest))
    ≡ graded (take d a) (take d b) =
    ap (λ x. graded x (take d (plus b rest))) (take-plus d a rest)
    ∙ ap (λ x. graded (plus (take d a) (take d rest)) x) (take-plus d b rest)
    ∙ graded-plus (take d a) (take d b) (take d rest) (same_front d a b e)
    (same_front d rest a f) in
    let back : cells_cmp order (drop d (plus a rest)) (drop d (plus b rest))
    ≡ cells_cmp order (drop d a) (drop d b) =
    ap (λ x. cells_cmp order x (drop d (plus b rest))) (drop-plus d a rest)
    ∙ ap (λ x. cells_cmp order (plus (drop d a) (drop d rest)) x) (drop-plus d b rest)
    ∙ cells-plus order (drop d a) (drop d b) (drop d rest) (same_back d a b e)
    (same_back d rest a f) in
    ap (λ o. ordering_then o (cells_cmp order (drop d (plus a rest)) (drop d (plus b rest)))) front
    ∙ ap (ordering_then (graded (take d a) (take d b))) back

-- what ties is equal
then_ties : (r s : Ordering) → ordering_then r s ≡ Equal → (r ≡ Equal) × (s ≡ Equal)
then_ties Less s e = (e, absurd (Less-not_Equal e))
then_ties Equal s e = (refl, e)
then_ties Greater s e = (e, absurd (Greater-not_Equal e))

-- what the lexicographic order ties is equal
lexicographic-definite : (a b : List ℕ) → slice_cmp nat_cmp a b ≡ Equal → a ≡ b
lexicographic-definite a b e = (bytes_decides a b).0 (texts_ties a b ∙ ap is_eq e)

-- what the graded order ties is equal
graded-definite : (a b : List ℕ) → graded a b ≡ Equal → a ≡ b
graded-definite a b e =
    let back =
    lexicographic-definite (reverse b) (reverse a)
    (then_ties (nat_cmp (sum a) (sum b)) (slice_cmp nat_cmp (reverse b) (reverse a)) e).1 in
    sym (reverse-reverse a) ∙ ap reverse (sym back) ∙ reverse-reverse b

-- what the order of the cells' exponents ties is equal
cells-definite : (order : Order) (a b : List ℕ) → cells_cmp order a b ≡ Equal → a ≡ b
cells-definite Lex a b e = lexicographic-definite a b e
cells-definite Grevlex a b e = graded-definite a b e

-- what the order of monomials ties is equal
monomial-definite : (order : Order) (d : ℕ) (a b : Monomial) → monomial_cmp order d a b ≡ Equal →
    a ≡ b
unfolding monomial_cmp
monomial-definite order d a b e =
    let parts =
    then_ties (graded (take d a) (take d b)) (cells_cmp order (drop d a) (drop d b)) e in
    sym (take-append-drop d a)
    ∙ ap (λ x. x ++ drop d a) (graded-definite (take d a) (take d b) parts.0)
    ∙ ap (λ x. take d b ++ x) (cells-definite order (drop d a) (drop d b) parts.1)
    ∙ take-append-drop d b

-- zeros add up to 0
sum-all_zero : (a : List ℕ) → all_zero a ≡ true → sum a ≡ 0
unfolding all_zero
sum-all_zero [] e = refl
sum-all_zero (zero ∷ a) e = let h = sum-all_zero a e in omega (arith, sum_by-cons (λ n. n) 0 a)
sum-all_zero (suc x ∷ a) e = cc

-- what adds up to 0 is zeros
pub all_zero-sum : (a : List ℕ) → sum a ≡ 0 → all_zero a ≡ true
unfolding all_zero
all_zero-sum [] e = refl
all_zero-sum (zero ∷ a) e = all_zero-sum a (omega (arith, sum_by-cons (λ n. n) 0 a))
all_zero-sum (suc x ∷ a) e = absurd (omega (arith, sum_by-cons (λ n. n) (suc x) a))

-- a number above 0 is greater than 0
pub nat_cmp-none : (n : ℕ) → nat_cmp (suc n) 0 ≡ Greater
nat_cmp-none n = grind (arith, nat_tests)

-- what is less than 0 by degree first has degree 0
below_zero : (n : ℕ) (r : Ordering) → ordering_then (nat_cmp n 0) r ≡ Less → n ≡ 0
below_zero zero r e = refl
below_zero (suc n) r e = let f : ordering_then (nat_cmp (suc n) 0) r ≡ Greater =
    ap (λ o. ordering_then o r) (nat_cmp-none n) in absurd (Greater-not_Less (sym f ∙ e))

-- what is below a margin-free monomial is margin-free
monomial-eliminates : (order : Order) (d : ℕ) (a b : Monomial) → monomial_cmp order d a b ≡ Less →
    margin_free d b ≡ true → margin_free d a ≡ true
unfolding monomial_cmp
monomial-eliminates order d a b e free =
    let none = sum-all_zero (take d b) free in
    let low = slice_cmp nat_cmp (reverse (take d b)) (reverse (take d a)) in
    let cells = cells_cmp order (drop d a) (drop d b) in
    all_zero-sum (take d a) (below_zero (sum (take d a)) (ordering_then low cells)
    (then_then (nat_cmp (sum (take d a)) 0) low cells
    ∙ ap (λ n. ordering_then (ordering_then (nat_cmp (sum (take d a)) n) low) cells) (sym none)
    ∙ e))

-- each of the orders is a monomial order
pub is_order : (order : Order) (d width : ℕ) → IsOrder width (monomial_cmp order d)
is_order order d width = record {
  total = monomial-total order d;
  definite = λ a b u v e. monomial-definite order d a b e;
  added = λ a b rest u v w. monomial-plus order d a b rest (u ∙ sym v) (w ∙ sym u);
}

-- each of the orders is an elimination order
pub eliminates : (order : Order) (d width : ℕ) → Eliminates d width (monomial_cmp order d)
eliminates order d width a b u v e free = monomial-eliminates order d a b e free
