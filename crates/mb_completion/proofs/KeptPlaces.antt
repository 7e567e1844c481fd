-- Places among kept rules, as the code finds them.
use Rattle.std.proofs.Common.{List, [], ap, arith, drop, get_or, inl, inr, length, map, refl, suc, sym, take, zero, ℕ, ◌++◌, ◌<◌, ◌∙◌, ◌∷◌, ◌≡◌, ◌≤◌, ◌⊎◌}
use Rattle.std.proofs.lemmas.List.{length-map, map-append}
use Rattle.std.proofs.lemmas.Option.{slice_get_read}
use Rattle.std.specs.declared.cmp.Ordering.TheVariants.{Equal, Greater, Less}
use Rattle.std.specs.declared.cmp.Ordering.{Ordering}
use Rattle.mb_completion.proofs.Putting.{put-before, put-there}
use Rattle.mb_completion.specs.loops.Kept.{put}
use Rattle.mb_order.specs.Monomial.{Exponents, HaveOneShape}
use Rattle.mb_order.specs.Order.{monomial_cmp}
use Rattle.mb_order.specs.Rewriting.{Rule}
use Rattle.mb_order.specs.declared.order.Order.{Order}
use Rattle.mb_rules.proofs.RulesInCode.{no_rule, rule_at}
use Rattle.mb_rules.specs.Sides.{sides}
use Rattle.mb_rules.specs.declared.rule.Rule as code
use Rattle.mb_tables.proofs.ListLaws.{place-in}
use Rattle.mb_tables.specs.Lists.{In}

-- what stands at a place is in the list
pub there : (items : List code.Rule) (k : ℕ) (r : code.Rule) → k < length items →
    r ≡ get_or items k r → In r items
there items k r h e = place-in items k r (slice_get_read items (length items) k r refl h e)

-- how the left side at a place compares
pub compare_at : (order : Order) (items : List code.Rule) (k : ℕ) (r : code.Rule) (left : Exponents)
    (o s : Ordering) → k < length items → r ≡ get_or items k r → HaveOneShape r.left left →
    o ≡ monomial_cmp order r.left.margins r.left.list left.list → o ≡ s →
    monomial_cmp order left.margins (get_or (map sides items) k no_rule).0 left.list ≡ s
compare_at order items k r left o s h e shape f g =
    ap (λ (x : Rule). monomial_cmp order left.margins x.0 left.list)
    (rule_at items (map sides items) k r refl h e)
    ∙ ap (λ d. monomial_cmp order d r.left.list left.list) (sym shape.margins) ∙ sym f ∙ g

-- the sides of the first rules
take-map : (items : List code.Rule) (p : ℕ) → map sides (take p items) ≡ take p (map sides items)
take-map [] zero = refl
take-map [] (suc p) = refl
take-map (x ∷ items) zero = refl
take-map (x ∷ items) (suc p) = ap (λ l. sides x ∷ l) (take-map items p)

-- the sides of the others
drop-map : (items : List code.Rule) (p : ℕ) → map sides (drop p items) ≡ drop p (map sides items)
drop-map [] zero = refl
drop-map [] (suc p) = refl
drop-map (x ∷ items) zero = refl
drop-map (x ∷ items) (suc p) = drop-map items p

-- the sides of rules with one put in at a place
pub insert-map : (items : List code.Rule) (p : ℕ) (rule : code.Rule) →
    map sides (take p items ++ (rule ∷ drop p items))
    ≡ take p (map sides items) ++ (sides rule ∷ drop p (map sides items))
insert-map items p rule =
    map-append sides (take p items) (rule ∷ drop p items)
    ∙ ap (λ l. l ++ (sides rule ∷ map sides (drop p items))) (take-map items p)
    ∙ ap (λ l. take p (map sides items) ++ (sides rule ∷ l)) (drop-map items p)

-- in a list with one element put in stands what was there, or that one
pub insert-only : (items : List code.Rule) (p : ℕ) (rule other : code.Rule) →
    In other (take p items ++ (rule ∷ drop p items)) → In other items ⊎ (other ≡ rule)
unfolding In
insert-only [] zero rule other (inl e) = inr e
insert-only [] zero rule other (inr i) = inl i
insert-only [] (suc p) rule other (inl e) = inr e
insert-only [] (suc p) rule other (inr i) = inl i
insert-only (x ∷ items) zero rule other (inl e) = inr e
insert-only (x ∷ items) zero rule other (inr i) = inl i
insert-only (x ∷ items) (suc p) rule other (inl e) = inl (inl e)
insert-only (x ∷ items) (suc p) rule other (inr i) =
    elim (insert-only items p rule other i) [ inl a ↦ inl (inr a) | inr e ↦ inr e ]

-- the code's place is that of `put`
pub insert_put : (order : Order) (items found looked : List code.Rule) (rule : code.Rule) (p : ℕ) →
    found ≡ items → looked ≡ items → p ≤ length found →
    ((i : ℕ) → i < p →
    monomial_cmp order rule.left.margins (get_or (map sides found) i no_rule).0 rule.left.list
    ≡ Less) →
    (p < length looked →
    monomial_cmp order rule.left.margins (get_or (map sides looked) p no_rule).0 rule.left.list
    ≡ Greater) →
    put (monomial_cmp order rule.left.margins) (sides rule) (map sides items)
    ≡ take p (map sides items) ++ (sides rule ∷ drop p (map sides items))
insert_put order items found looked rule p e f h below later =
    let long = length-map items sides in
    put-before (monomial_cmp order rule.left.margins) (sides rule) (map sides items) p (let x =
    ap length e in omega arith)
    (λ i l. ap
    (λ (s : List code.Rule).
    monomial_cmp order rule.left.margins (get_or (map sides s) i no_rule).0 rule.left.list) (sym e)
    ∙ below i l)
    (λ l. ap
    (λ (s : List code.Rule).
    monomial_cmp order rule.left.margins (get_or (map sides s) p no_rule).0 rule.left.list) (sym f)
    ∙ later (let x = ap length f in omega arith))

-- where the left side is there, nothing is put in
pub insert_there : (order : Order) (items found looked : List code.Rule) (rule : code.Rule)
    (p : ℕ) → found ≡ items → looked ≡ items → p < length looked →
    ((i : ℕ) → i < p →
    monomial_cmp order rule.left.margins (get_or (map sides found) i no_rule).0 rule.left.list
    ≡ Less) →
    monomial_cmp order rule.left.margins (get_or (map sides looked) p no_rule).0 rule.left.list
    ≡ Equal →
    put (monomial_cmp order rule.left.margins) (sides rule) (map sides items) ≡ map sides items
insert_there order items found looked rule p e f h below equal =
    let long = length-map items sides in
    put-there (monomial_cmp order rule.left.margins) (sides rule) (map sides items) p (let x =
    ap length f in omega arith)
    (λ i l. ap
    (λ (s : List code.Rule).
    monomial_cmp order rule.left.margins (get_or (map sides s) i no_rule).0 rule.left.list) (sym e)
    ∙ below i l)
    (ap (λ (s : List code.Rule).
    monomial_cmp order rule.left.margins (get_or (map sides s) p no_rule).0 rule.left.list) (sym f)
    ∙ equal)
