-- The order of paths: what comes before what, and how steps at the end keep it.
use Rattle.std.proofs.Common.{List, [], ap, arith, cond, inl, inr, length, length-append, map, nat_eq, negsuc, pos, refl, subst, sym, true, ℕ, ℤ, ◌++◌, ◌+◌, ◌<◌, ◌∙◌, ◌∷◌, ◌≡◌, ◌≤◌, ◌⊎◌}
use Rattle.std.proofs.lemmas.Bool.Decides.{nat_tests}
use Rattle.std.proofs.lemmas.Cmp.{nat_cmp_total, nat_list_cmp_total, ranked, tied_itself}
use Rattle.std.proofs.lemmas.List.{length-map, map-append}
use Rattle.std.specs.Cmp.Lexicographic.{slice_cmp}
use Rattle.std.specs.FinMap.{nat_cmp-IsAntisymmetric, slice_cmp-IsAntisymmetric}
use Rattle.std.specs.Ordering.{MatchOrdering, nat_cmp, ordering_reverse, ordering_then}
use Rattle.std.specs.Prelude.{nat_lt}
use Rattle.std.specs.declared.cmp.Ordering.{Ordering}
use Rattle.std.specs.declared.cmp.Ordering.TheVariants.{Equal, Greater, Less}
use Rattle.mb_rings.proofs.AscendingTables.{Less-never_itself, Less-one_way}
use Rattle.mb_rings.specs.ShortestPath.{IsLeastPath, path_cmp, path_key, turn}
use Rattle.mb_rings.specs.loops.Before.{IsBefore, IsUpTo}

-- a path does not come before itself
pub before-never_itself : (p : List ℤ) → IsBefore p p → ⊥
before-never_itself p e = Less-never_itself (path_key p) e

-- of two paths at most one comes before the other
pub before-one_way : (p q : List ℤ) → IsBefore p q → IsBefore q p → ⊥
before-one_way p q e f = Less-one_way (path_key p) (path_key q) e f

-- what comes before what comes before
pub before-trans : (p q r : List ℤ) → IsBefore p q → IsBefore q r → IsBefore p r
before-trans p q r e f = nat_list_cmp_total.trans (path_key p) (path_key q) (path_key r) e f

-- a smaller number comes before
less-nat : (a b : ℕ) → a < b → nat_cmp a b ≡ Less
less-nat a b l =
    let e : nat_lt a b ≡ true = grind (arith, nat_tests) in
    ap (λ t. cond t Less (cond (nat_eq a b) Equal Greater)) e

-- a shorter path comes before
pub before-shorter : (p q : List ℤ) → length p < length q → IsBefore p q
before-shorter p q l =
    ap (λ o. ordering_then o (slice_cmp nat_cmp (map turn p) (map turn q)))
    (less-nat (length p) (length q) l)

-- so does one of the same length whose turns come before
before-level : (p q : List ℤ) → length p ≡ length q →
    slice_cmp nat_cmp (map turn p) (map turn q) ≡ Less → IsBefore p q
before-level p q e l =
    ap (λ o. ordering_then o (slice_cmp nat_cmp (map turn p) (map turn q)))
    (ap (nat_cmp (length p)) (sym e) ∙ tied_itself nat_cmp_total (length p))
    ∙ l

-- there is no other way
before-cases : (p q : List ℤ) → IsBefore p q →
    (length p < length q)
    ⊎ ((length p ≡ length q) × (slice_cmp nat_cmp (map turn p) (map turn q) ≡ Less))
before-cases p q e = by (nat_cmp (length p) (length q)) (ranked (length p) (length q) _ refl) e
  where
    by : (o : Ordering) →
        MatchOrdering o (length p < length q) (length p ≡ length q) (length q < length p) →
        ordering_then o (slice_cmp nat_cmp (map turn p) (map turn q)) ≡ Less →
        (length p < length q)
        ⊎ ((length p ≡ length q) × (slice_cmp nat_cmp (map turn p) (map turn q) ≡ Less))
    by Less h l = inl h
    by Equal h l = inr (h, l)
    by Greater h l = cc

-- lists of one length of which one comes before stay so with a number more
less-push : (xs ys : List ℕ) (a b : ℕ) → length xs ≡ length ys →
    slice_cmp nat_cmp xs ys ≡ Less →
    slice_cmp nat_cmp (xs ++ a ∷ []) (ys ++ b ∷ []) ≡ Less
less-push [] [] a b e l = cc
less-push [] (y ∷ ys) a b e l = absurd (omega arith)
less-push (x ∷ xs) [] a b e l = absurd (omega arith)
less-push (x ∷ xs) (y ∷ ys) a b e l =
    by (nat_cmp x y) l (λ m. less-push xs ys a b (omega arith) m)
  where
    by : (o : Ordering) → ordering_then o (slice_cmp nat_cmp xs ys) ≡ Less →
        (slice_cmp nat_cmp xs ys ≡ Less →
        slice_cmp nat_cmp (xs ++ a ∷ []) (ys ++ b ∷ []) ≡ Less) →
        ordering_then o (slice_cmp nat_cmp (xs ++ a ∷ []) (ys ++ b ∷ [])) ≡ Less
    by Less l rest = refl
    by Equal l rest = rest l
    by Greater l rest = cc

-- the last numbers decide where the others are the same
less-last : (xs : List ℕ) (a b : ℕ) → a < b →
    slice_cmp nat_cmp (xs ++ a ∷ []) (xs ++ b ∷ []) ≡ Less
less-last [] a b l = ap (λ o. ordering_then o Equal) (less-nat a b l)
less-last (x ∷ xs) a b l =
    ap (λ o. ordering_then o (slice_cmp nat_cmp (xs ++ a ∷ []) (xs ++ b ∷ [])))
    (tied_itself nat_cmp_total x)
    ∙ less-last xs a b l

-- the turns of a path with one step more
turns-push : (p : List ℤ) (s : ℤ) → map turn (p ++ s ∷ []) ≡ map turn p ++ turn s ∷ []
turns-push p s = map-append turn p (s ∷ [])

-- its length
pub length-step : (p : List ℤ) (s : ℤ) → length (p ++ s ∷ []) ≡ length p + 1
length-step p s = length-append p (s ∷ [])

-- a path comes before the same with one step more
pub before-more : (p : List ℤ) (s : ℤ) → IsBefore p (p ++ s ∷ [])
before-more p s = let e = length-step p s in before-shorter p (p ++ s ∷ []) (omega arith)

-- what comes before does so with any step more
pub before-push : (p q : List ℤ) (s t : ℤ) → IsBefore p q → IsBefore (p ++ s ∷ []) (q ++ t ∷ [])
before-push p q s t e =
    let f = length-step p s in
    let g = length-step q t in
    elim (before-cases p q e) [
      | inl l ↦ before-shorter (p ++ s ∷ []) (q ++ t ∷ []) (omega arith)
      | inr h ↦
          let long = h.0 in
          before-level (p ++ s ∷ []) (q ++ t ∷ []) (omega arith)
          (ap (λ xs. slice_cmp nat_cmp xs (map turn (q ++ t ∷ []))) (turns-push p s)
          ∙ ap (slice_cmp nat_cmp (map turn p ++ turn s ∷ [])) (turns-push q t)
          ∙ less-push (map turn p) (map turn q) (turn s) (turn t)
          (length-map p turn ∙ long ∙ sym (length-map q turn)) h.1)
    ]

-- a path with a sooner step at its end comes before
pub before-turn : (p : List ℤ) (s t : ℤ) → turn s < turn t →
    IsBefore (p ++ s ∷ []) (p ++ t ∷ [])
before-turn p s t l =
    before-level (p ++ s ∷ []) (p ++ t ∷ [])
    (length-step p s ∙ sym (length-step p t))
    (ap (λ xs. slice_cmp nat_cmp xs (map turn (p ++ t ∷ []))) (turns-push p s)
    ∙ ap (slice_cmp nat_cmp (map turn p ++ turn s ∷ [])) (turns-push p t)
    ∙ less-last (map turn p) (turn s) (turn t) l)

-- what comes no later, and then before
pub upto-before : (p q r : List ℤ) → IsUpTo p q → IsBefore q r → IsBefore p r
upto-before p q r (inl e) f = subst (λ x. IsBefore x r) (sym e) f
upto-before p q r (inr e) f = before-trans p q r e f

-- what comes before, and then no later
pub before-upto : (p q r : List ℤ) → IsBefore p q → IsUpTo q r → IsBefore p r
before-upto p q r e (inl f) = subst (IsBefore p) f e
before-upto p q r e (inr f) = before-trans p q r e f

-- no later twice
pub upto-trans : (p q r : List ℤ) → IsUpTo p q → IsUpTo q r → IsUpTo p r
upto-trans p q r (inl e) h = subst (λ x. IsUpTo x r) (sym e) h
upto-trans p q r (inr e) h = inr (before-upto p q r e h)

-- no later with the same step more
pub upto-push : (p q : List ℤ) (s : ℤ) → IsUpTo p q → IsUpTo (p ++ s ∷ []) (q ++ s ∷ [])
upto-push p q s (inl e) = inl (ap (λ x. x ++ s ∷ []) e)
upto-push p q s (inr e) = inr (before-push p q s s e)

-- two signed numbers have different turns
pub turn-one : (s t : ℤ) → turn s ≡ turn t → s ≡ t
turn-one (pos k) (pos l) e = let f : k ≡ l = omega arith in ap pos f
turn-one (pos k) (negsuc l) e = absurd (omega arith)
turn-one (negsuc k) (pos l) e = absurd (omega arith)
turn-one (negsuc k) (negsuc l) e = let f : k ≡ l = omega arith in ap negsuc f

-- a path with no later step at its end comes no later
pub upto-turn : (p : List ℤ) (s t : ℤ) → turn s ≤ turn t → IsUpTo (p ++ s ∷ []) (p ++ t ∷ [])
upto-turn p s t l = by (cases (turn s) (turn t) l)
  where
    cases : (a b : ℕ) → a ≤ b → (a ≡ b) ⊎ (a < b)
    cases a b h = grind arith

    by : (turn s ≡ turn t) ⊎ (turn s < turn t) → IsUpTo (p ++ s ∷ []) (p ++ t ∷ [])
    by (inl e) = inl (ap (λ x. p ++ x ∷ []) (turn-one s t e))
    by (inr m) = inr (before-turn p s t m)

-- lists of the same turns are the same
turns-one : (p q : List ℤ) → map turn p ≡ map turn q → p ≡ q
turns-one [] [] e = refl
turns-one [] (t ∷ q) e = cc
turns-one (s ∷ p) [] e = cc
turns-one (s ∷ p) (t ∷ q) e =
    let a : turn s ≡ turn t = cc in
    let b : map turn p ≡ map turn q = cc in
    let f = turn-one s t a in
    let g = turns-one p q b in cc

-- a path before which another does not come is that one, or comes before it
pub upto-from_not : (p q : List ℤ) → (IsBefore q p → ⊥) → IsUpTo p q
upto-from_not p q h = by (path_cmp p q) refl
  where
    by : (o : Ordering) → path_cmp p q ≡ o → IsUpTo p q
    by Less e = inr e
    by Equal e =
        let f : path_key p ≡ path_key q =
        slice_cmp-IsAntisymmetric nat_cmp-IsAntisymmetric (path_key p) (path_key q) e in
        let g : map turn p ≡ map turn q = cc in inl (turns-one p q g)
    by Greater e =
        absurd (h (nat_list_cmp_total.antisymm (path_key q) (path_key p) ∙ ap ordering_reverse e))

-- there is one least path at most
pub least-one : (moves : List (List ℤ)) (u v : List ℕ) (p q : List ℤ) →
    IsLeastPath moves u p v → IsLeastPath moves u q v → p ≡ q
least-one moves u v p q h k =
    elim (upto-from_not p q (h.least q k.leads)) [
      | inl e ↦ e
      | inr e ↦ absurd (k.least p h.leads e)
    ]
