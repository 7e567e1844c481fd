-- The lines of rings, one after the other.
use Rattle.std.proofs.Common.{Global, List, Vec, [], ap, append-nil, append_assoc, arith, get_or, length, length-take-le, map, suc, sym, take, ℕ, ◌++◌, ◌+◌, ◌<◌, ◌∙◌, ◌∷◌, ◌≡◌, ◌≤◌}
use Rattle.std.proofs.lemmas.List.{length-map, map-append, take-map, take_more}
use Rattle.std.proofs.lemmas.List.Sums.{sum_by-append, sum_by-take-le}
use Rattle.mb_reports.specs.RingTable.{ring_lines, rings_lines, tables_in}

-- the lists of tables that some vectors keep
abbrev pub listed : List (Vec (List ℕ) Global) → List (List (List ℕ))
listed rings = map (λ ring. ring.items) rings

-- the lines of some rings and one more
rings_lines-push : (k : ℕ) (rings : List (List (List ℕ))) (ring : List (List ℕ)) →
    rings_lines k (rings ++ ring ∷ []) ≡ rings_lines k rings ++ ring_lines (k + length rings) ring
unfolding rings_lines
rings_lines-push k [] ring =
    let e : k ≡ k + 0 = omega arith in
    append-nil (ring_lines k ring) ∙ ap (λ n. ring_lines n ring) e
rings_lines-push k (first ∷ rings) ring =
    let e : (k + 1) + length rings ≡ k + suc (length rings) = omega arith in
    ap (λ text. ring_lines k first ++ text)
    (rings_lines-push (k + 1) rings ring
    ∙ ap (λ n. rings_lines (k + 1) rings ++ ring_lines n ring) e)
    ∙ sym (append_assoc (ring_lines k first) (rings_lines (k + 1) rings)
    (ring_lines (k + suc (length rings)) ring))

-- the first rings and one more, as they are kept
listed-more : (rings : List (Vec (List ℕ) Global)) (i : ℕ) (ring : Vec (List ℕ) Global) →
    i < length rings → ring ≡ get_or rings i ring →
    listed (take (i + 1) rings) ≡ listed (take i rings) ++ ring.items ∷ []
listed-more rings i ring l there =
    ap listed (take_more rings i ring l ∙ ap (λ r. take i rings ++ r ∷ []) (sym there))
    ∙ map-append (λ (r : Vec (List ℕ) Global). r.items) (take i rings) (ring ∷ [])

-- the first rings are as many as the place of the next
length-listed : (rings : List (Vec (List ℕ) Global)) (i : ℕ) → i ≤ length rings →
    length (listed (take i rings)) ≡ i
length-listed rings i l =
    length-map (take i rings) (λ (r : Vec (List ℕ) Global). r.items) ∙ length-take-le i rings l

-- the lines of one ring more
pub rings-more : (before now after : List ℕ) (rings : List (Vec (List ℕ) Global)) (i : ℕ)
    (ring : Vec (List ℕ) Global) → now ≡ before ++ rings_lines 0 (listed (take i rings)) →
    after ≡ now ++ ring_lines i ring.items → i < length rings → ring ≡ get_or rings i ring →
    after ≡ before ++ rings_lines 0 (listed (take (i + 1) rings))
rings-more before now after rings i ring e f l there =
    let k : 0 + length (listed (take i rings)) ≡ i =
    let g = length-listed rings i (omega arith) in omega arith in
    f ∙ ap (λ text. text ++ ring_lines i ring.items) e
    ∙ append_assoc before (rings_lines 0 (listed (take i rings))) (ring_lines i ring.items)
    ∙ ap (λ text. before ++ text)
    (sym (ap (rings_lines 0) (listed-more rings i ring l there)
    ∙ rings_lines-push 0 (listed (take i rings)) ring.items
    ∙ ap (λ n. rings_lines 0 (listed (take i rings)) ++ ring_lines n ring.items) k))

-- no rings have no lines
pub rings_lines-none : (text : List ℕ) → text ≡ text ++ rings_lines 0 []
unfolding rings_lines
rings_lines-none text = sym (append-nil text)

-- the tables of one ring more
pub tables_in-more : (rings : List (Vec (List ℕ) Global)) (i : ℕ) (ring : Vec (List ℕ) Global) →
    i < length rings → ring ≡ get_or rings i ring →
    tables_in (listed (take (i + 1) rings)) ≡ tables_in (listed (take i rings)) + length ring.items
tables_in-more rings i ring l there =
    let e = sum_by-append (length {A = List ℕ}) (listed (take i rings)) (ring.items ∷ []) in
    let f = ap tables_in (listed-more rings i ring l there) in omega arith

-- the first rings have no more tables than all of them
pub tables_in-le : (rings : List (Vec (List ℕ) Global)) (i : ℕ) →
    tables_in (listed (take i rings)) ≤ tables_in (listed rings)
tables_in-le rings i =
    let e = ap tables_in (take-map (λ (r : Vec (List ℕ) Global). r.items) i rings) in
    let h = sum_by-take-le (length {A = List ℕ}) (listed rings) i in omega arith
