-- The parts that are picked of a move's entries make these entries.
use Rattle.std.proofs.Common.{Bool, List, [], ap, append-nil, append_assoc, arith, cond, drop, false, get_or, length, negsuc, pos, refl, subst, suc, sym, true, zero, ℕ, ℤ, ◌++◌, ◌+ℤ◌, ◌+◌, ◌<◌, ◌∙◌, ◌∷◌, ◌≡◌, ◌≤◌}
use Rattle.std.proofs.Math.ListN.{drop_of_length-le}
use Rattle.std.proofs.Math.Seq.{drop-cons}
use Rattle.std.proofs.lemmas.Bool.Decides.{nat_tests}
use Rattle.std.proofs.lemmas.Int.{ints}
use Rattle.mb_tables.proofs.ListLaws.{same_at}
use Rattle.mb_tables.proofs.PartLaws.{add_at-here, add_at-other, entries_of-other, length-entries_of}
use Rattle.mb_tables.specs.declared.part.Part.{Part}
use Rattle.mb_tables.specs.loops.Parts.{entries_of, is_high, is_low, picked}

-- the parts from one place on are that of the place, if it is picked, and those behind it
pub picked-drop : (test : ℤ → Bool) (k : ℕ) (entries : List ℤ) (d : ℤ) → k < length entries →
    picked test k (drop k entries)
    ≡ cond (test (get_or entries k d))
    (record { cell = k; entry = get_or entries k d } ∷ picked test (k + 1) (drop (k + 1) entries))
    (picked test (k + 1) (drop (k + 1) entries))
unfolding picked
picked-drop test k entries d l =
    let next : k + 1 ≡ suc k = omega arith in rw (next, drop-cons entries k d l) refl

-- a picked part is put behind the others
pub picked-yes : (test : ℤ → Bool) (k : ℕ) (entries : List ℤ) (d : ℤ)
    (items after all : List Part) → k < length entries → test (get_or entries k d) ≡ true →
    after ≡ items ++ record { cell = k; entry = get_or entries k d } ∷ [] →
    items ++ picked test k (drop k entries) ≡ all →
    after ++ picked test (k + 1) (drop (k + 1) entries) ≡ all
picked-yes test k entries d items after all l e f h =
    let part : Part = record { cell = k; entry = get_or entries k d } in
    let rest = picked test (k + 1) (drop (k + 1) entries) in
    ap (λ list. list ++ rest) f
    ∙ append_assoc items (part ∷ []) rest
    ∙ ap (λ list. items ++ list)
    (sym (picked-drop test k entries d l ∙ ap (λ t. cond t (part ∷ rest) rest) e))
    ∙ h

-- any other is passed over
pub picked-no : (test : ℤ → Bool) (k : ℕ) (entries : List ℤ) (d : ℤ)
    (items all : List Part) → k < length entries → test (get_or entries k d) ≡ false →
    items ++ picked test k (drop k entries) ≡ all →
    items ++ picked test (k + 1) (drop (k + 1) entries) ≡ all
picked-no test k entries d items all l e h =
    let part : Part = record { cell = k; entry = get_or entries k d } in
    let rest = picked test (k + 1) (drop (k + 1) entries) in
    ap (λ list. items ++ list)
    (sym (picked-drop test k entries d l ∙ ap (λ t. cond t (part ∷ rest) rest) e))
    ∙ h

-- behind the last cell nothing is picked
pub picked-end : (test : ℤ → Bool) (k : ℕ) (entries : List ℤ) (items all : List Part) →
    length entries ≤ k → items ++ picked test k (drop k entries) ≡ all → items ≡ all
unfolding picked
picked-end test k entries items all l h =
    sym (ap (λ list. items ++ picked test k list) (drop_of_length-le entries l)
    ∙ append-nil items)
    ∙ h

-- what a test leaves of an entry
abbrev chosen : (ℤ → Bool) → ℤ → ℤ
chosen test z = cond (test z) z (pos 0)

-- a cell before the picked ones
picked-before : (cells j k : ℕ) (test : ℤ → Bool) (entries : List ℤ) (rest : List Part) →
    j < k →
    get_or (entries_of cells (picked test k entries ++ rest)) j (pos 0)
    ≡ get_or (entries_of cells rest) j (pos 0)
unfolding picked entries_of
picked-before cells j k test [] rest l = refl
picked-before cells j k test (z ∷ entries) rest l =
    by (test z) (picked-before cells j (suc k) test entries rest (omega arith))
  where
    by : (t : Bool) →
        get_or (entries_of cells (picked test (suc k) entries ++ rest)) j (pos 0)
        ≡ get_or (entries_of cells rest) j (pos 0) →
        get_or (entries_of cells
        (cond t (record { cell = k; entry = z } ∷ picked test (suc k) entries)
        (picked test (suc k) entries) ++ rest)) j (pos 0)
        ≡ get_or (entries_of cells rest) j (pos 0)
    by true h =
        add_at-other k j z (entries_of cells (picked test (suc k) entries ++ rest))
        (λ e. omega arith)
        ∙ h
    by false h = h

-- a picked cell has what the test leaves of its entry, and what the rest of the parts has
picked-at : (cells i k : ℕ) (test : ℤ → Bool) (entries : List ℤ) (rest : List Part) →
    k + length entries ≤ cells → i < length entries →
    get_or (entries_of cells (picked test k entries ++ rest)) (k + i) (pos 0)
    ≡ (get_or (entries_of cells rest) (k + i) (pos 0) +ℤ chosen test (get_or entries i (pos 0)))
unfolding picked entries_of
picked-at cells i k test [] rest w l = absurd (omega arith)
picked-at cells zero k test (z ∷ entries) rest w l = by (test z)
  where
    here : k + zero ≡ k
    here = omega arith

    parts : List Part
    parts = picked test (suc k) entries ++ rest

    before : get_or (entries_of cells parts) k (pos 0) ≡ get_or (entries_of cells rest) k (pos 0)
    before = picked-before cells k (suc k) test entries rest (omega arith)

    by : (t : Bool) →
        get_or (entries_of cells
        (cond t (record { cell = k; entry = z } ∷ picked test (suc k) entries)
        (picked test (suc k) entries) ++ rest)) (k + zero) (pos 0)
        ≡ (get_or (entries_of cells rest) (k + zero) (pos 0) +ℤ cond t z (pos 0))
    by true =
        let long = length-entries_of cells parts in
        rw here (add_at-here k z (entries_of cells parts) (omega arith)
        ∙ ap (λ x. x +ℤ z) before)
    by false = rw here (before ∙ omega (arith, ints))
picked-at cells (suc i) k test (z ∷ entries) rest w l =
    by (test z) (picked-at cells i (suc k) test entries rest (omega arith) (omega arith))
  where
    next : suc k + i ≡ k + suc i
    next = omega arith

    parts : List Part
    parts = picked test (suc k) entries ++ rest

    by : (t : Bool) →
        get_or (entries_of cells parts) (suc k + i) (pos 0)
        ≡ (get_or (entries_of cells rest) (suc k + i) (pos 0)
        +ℤ chosen test (get_or entries i (pos 0))) →
        get_or (entries_of cells
        (cond t (record { cell = k; entry = z } ∷ picked test (suc k) entries)
        (picked test (suc k) entries) ++ rest)) (k + suc i) (pos 0)
        ≡ (get_or (entries_of cells rest) (k + suc i) (pos 0)
        +ℤ chosen test (get_or entries i (pos 0)))
    by true h =
        rw (← next) (add_at-other k (suc k + i) z (entries_of cells parts) (λ e. omega arith) ∙ h)
    by false h = rw (← next) h

-- the same where the first entry is that of cell 0
picked-first : (cells i : ℕ) (test : ℤ → Bool) (entries : List ℤ) (rest : List Part) →
    length entries ≤ cells → i < length entries →
    get_or (entries_of cells (picked test 0 entries ++ rest)) i (pos 0)
    ≡ (get_or (entries_of cells rest) i (pos 0) +ℤ chosen test (get_or entries i (pos 0)))
picked-first cells i test entries rest w l =
    let same : 0 + i ≡ i = omega arith in
    subst (λ n. get_or (entries_of cells (picked test 0 entries ++ rest)) n (pos 0)
    ≡ (get_or (entries_of cells rest) n (pos 0) +ℤ chosen test (get_or entries i (pos 0))))
    same (picked-at cells i 0 test entries rest (omega arith) l)

-- an entry is what is below 0 of it and what is above 0 of it
both : (z : ℤ) → (chosen is_high z +ℤ chosen is_low z) ≡ z
both (pos zero) = refl
both (pos (suc n)) = grind (arith, ints, nat_tests)
both (negsuc n) = grind (arith, ints, nat_tests)

-- the parts below 0 and those above it, of all entries
abbrev pub parts_of : List ℤ → List Part
parts_of entries = picked is_low 0 entries ++ picked is_high 0 entries

-- they make the entries
pub picked-entries : (entries : List ℤ) → entries_of (length entries) (parts_of entries) ≡ entries
picked-entries entries =
    same_at (pos 0) (entries_of (length entries) (parts_of entries)) entries
    (length-entries_of (length entries) (parts_of entries))
    (λ i l.
    let n = length entries in
    let z = get_or entries i (pos 0) in
    let highs = picked is_high 0 entries in
    let long = length-entries_of n (parts_of entries) in
    let low = picked-first n i is_low entries highs (omega arith) (omega arith) in
    let high = picked-first n i is_high entries [] (omega arith) (omega arith) in
    let none = entries_of-other n i [] tt in
    let whole = ap (λ list. get_or (entries_of n list) i (pos 0)) (append-nil highs) in
    let sum = both z in
    omega (arith, ints))
