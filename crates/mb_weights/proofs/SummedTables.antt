-- The tables of rings, and their weights summed.
use Rattle.std.proofs.Common.{All, Global, List, Vec, [], arith, ap, cond, get_or, inl, inr, length, length-append, nat_le, subst, suc, sym, zero, ℕ, ◌++◌, ◌+◌, ◌<◌, ◌∷◌, ◌≡◌, ◌≤◌}
use Rattle.std.proofs.lemmas.Bool.{cases_Bool, le-leb}
use Rattle.std.proofs.lemmas.List.{get_or-append-add, get_or_append_left}
use Rattle.std.proofs.lemmas.List.Elements.{All-head, All-tail}
use Rattle.std.proofs.lemmas.List.Sums.{sum_by-cons}
use Rattle.mb_matrix.specs.Measure.{Weighting}
use Rattle.mb_tables.specs.Lists.{In}
use Rattle.mb_weights.specs.PValue.{at_most, below_of, tables_in, whole_of}
use Rattle.mb_weights.specs.Weight.{weight_of}

-- what holds of all of two lists holds of all of the first
all_front : (P : List ℕ → Type 0) (xs ys : List (List ℕ)) → All P (xs ++ ys) → All P xs
all_front P xs ys all k d l =
    let e = length-append xs ys in
    subst P (get_or_append_left xs ys d k l) (all k d (omega arith))

-- and of the second
all_back : (P : List ℕ → Type 0) (xs ys : List (List ℕ)) → All P (xs ++ ys) → All P ys
all_back P xs ys all k d l =
    let e = length-append xs ys in
    subst P (get_or-append-add xs ys k d) (all (length xs + k) d (omega arith))

-- what holds of all tables holds of those of each ring
pub each_ring : (P : List ℕ → Type 0) (rings : List (Vec (List ℕ) Global)) (i : ℕ)
    (ring : Vec (List ℕ) Global) → i < length rings → ring ≡ get_or rings i ring →
    All P (tables_in rings) → All P ring.items
each_ring P [] i ring l there all = absurd (omega arith)
each_ring P (first ∷ rings) zero ring l there all =
    subst (λ (r : Vec (List ℕ) Global). All P r.items) (sym there)
    (all_front P first.items (tables_in rings) all)
each_ring P (first ∷ rings) (suc i) ring l there all =
    each_ring P rings i ring (omega arith) there
    (all_back P first.items (tables_in rings) all)

-- what holds of all tables holds of a listed one
pub of_listed : (P : List ℕ → Type 0) (tables : List (List ℕ)) (u : List ℕ) →
    All P tables → In u tables → P u
unfolding In
of_listed P [] u all there = absurd there
of_listed P (v ∷ tables) u all (inl same) = subst P (sym same) (All-head P v tables all)
of_listed P (v ∷ tables) u all (inr later) = of_listed P tables u (All-tail P v tables all) later

-- a listed table weighs no more than all
pub listed_within : (m : Weighting) (tables : List (List ℕ)) (u : List ℕ) →
    In u tables → weight_of m u ≤ whole_of m tables
unfolding In
listed_within m [] u there = absurd there
listed_within m (v ∷ tables) u (inl same) =
    let e = sum_by-cons (weight_of m) v tables in
    let f = ap (weight_of m) same in omega arith
listed_within m (v ∷ tables) u (inr later) =
    let e = sum_by-cons (weight_of m) v tables in
    let f = listed_within m tables u later in omega arith

-- one table more in front of those that weigh at most so much
pub at_most-cons : (m : Weighting) (w : ℕ) (v : List ℕ) (tables : List (List ℕ)) →
    whole_of m (at_most m w (v ∷ tables))
    ≡ cond (nat_le (weight_of m v) w) (weight_of m v) 0 + whole_of m (at_most m w tables)
at_most-cons m w v tables =
    elim (cases_Bool (nat_le (weight_of m v) w)) [
      | inl within ↦ rw within (sum_by-cons (weight_of m) v (at_most m w tables))
      | inr past ↦ rw past (omega arith)
    ]

-- a table in front that is one of them
at_most-first : (m : Weighting) (w : ℕ) (v : List ℕ) (tables : List (List ℕ)) →
    weight_of m v ≤ w →
    whole_of m (at_most m w (v ∷ tables)) ≡ weight_of m v + whole_of m (at_most m w tables)
at_most-first m w v tables h =
    rw (le-leb (weight_of m v) w h) (sum_by-cons (weight_of m) v (at_most m w tables))

-- a listed table is one of those that are no likelier than it
pub observed_within : (m : Weighting) (u : List ℕ) (tables : List (List ℕ)) →
    In u tables → weight_of m u ≤ below_of m u tables
unfolding In
observed_within m u [] there = absurd there
observed_within m u (v ∷ tables) (inl same) =
    let f = ap (weight_of m) same in
    let e = at_most-first m (weight_of m u) v tables (omega arith) in omega arith
observed_within m u (v ∷ tables) (inr later) =
    let e = at_most-cons m (weight_of m u) v tables in
    let f = observed_within m u tables later in omega arith
