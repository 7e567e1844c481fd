-- The query of names shows the names of a kind in the order of the map.
use Rattle.std.proofs.Common.{All, Bool, Equal, Greater, Less, List, None, Option, Ordering, Some, [], ap, arith, cond, false, inl, inr, is_some, length, map, pos, refl, slice_index_or, subst, suc, sym, true, true≢false, ℕ, ◌&&◌, ◌+◌, ◌<◌, ◌||◌, ◌≤◌, ◌∙◌, ◌∷◌, ◌≡◌}
use Rattle.std.proofs.lemmas.Bool.{and_from, and_parts, cases_Bool, cases_eq, eq-eqb, ne_eqb}
use Rattle.std.proofs.lemmas.Cmp.{nat_cmp_total, nat_list_cmp_total}
use Rattle.std.proofs.lemmas.Map.Lookups.{exact_bytes, exact_unsigned}
use Rattle.std.proofs.lemmas.List.Elements.{All-cons, All-nil, All-tail}
use Rattle.std.proofs.lemmas.List.{get_or-map}
use Rattle.std.proofs.lemmas.List.Sums.{sum_by-cons}
use Rattle.std.proofs.lemmas.List.Sorted.{All-permutation, IsPermutation-map, list_any-IsPermutation, sum_by-IsPermutation}
use Rattle.std.specs.Cmp.{Equal-is, tied_itself}
use Rattle.std.specs.Cmp.Lexicographic.{slice_cmp}
use Rattle.std.specs.FinMap.{entries as listed, entries_sorted, find, get-entries, get-from_entries, is_sorted}
use Rattle.std.specs.FinMap.Entries.{below_all, is_some-find, same_entries}
use Rattle.std.specs.List.{filter, list_all, list_any, sum_by}
use Rattle.std.specs.List.Sorted.{IsPermutation}
use Rattle.std.specs.Ordering.{eq_by_cmp, is_eq, is_lt, nat_cmp, ordering_reverse, ordering_then}
use Rattle.std.specs.Prelude.{IsSorted, T}
use Rattle.mb_outside.specs.Rows.{Key, key_cmp, names_among, names_of}
use Rattle.sqlite.specs.declared.types.Value.TheVariants.{Int, Text}
use Rattle.sqlite.specs.Order.{Row, bytes, column, value_cmp}
use Rattle.sqlite_value.proofs.OrderLemmas.{then-Equal, value_cmp-Text}
use Rattle.sqlite.specs.Term.{col, holds}
use Rattle.sqlite.specs.Collation.TheVariants.{Binary}
use Rattle.sqlite.specs.Query.{IsAnswer, Output, output, output_cmp}
use Rattle.sqlite.specs.Program.{overlay}
use Rattle.sqlite.specs.Tree.{Trees}
use Rattle.mb_keeper.specs.Effects.{name_shown}
use Rattle.mb_keeper.specs.RowsInTable.{are_kept, entry, rows_in}
use Rattle.mb_keeper.proofs.Statements.{names_query, of_kind}
use Rattle.mb_outside.proofs.KeptRows.{keys_total}
use Rattle.mb_keeper.proofs.TableRows.{Entry, IsKeptBefore, entries, kept_before, no_other}
use Rattle.mb_keeper.proofs.Queries.{answered, kind_passes, shape_of}

-- names in the order of bytes
abbrev Name : Type 0
Name = List ℕ

-- names are compared byte by byte
abbrev name_cmp : Name → Name → Ordering
name_cmp = slice_cmp nat_cmp

-- a row is of the kind
abbrev has_kind : ℕ → Option Entry → Bool
has_kind kind None = false
has_kind kind (Some e) = is_eq (nat_cmp kind e.0.0)

-- the name of a row
abbrev name_of : Row → Name
name_of row = bytes (column row 2)

-- what is shown of a name, beside what it is sorted by
abbrev made : Name → Output
made name = (Text name ∷ [], Text name ∷ [])

-- the name that an output shows
abbrev name_in : Output → Name
name_in o = bytes (column o.1 0)

-- the outputs are those of their names
all_made : (os : List Output) → All (λ o. made (name_in o) ≡ o) os → map made (map name_in os) ≡ os
all_made [] all = refl
all_made (o ∷ os) all =
    λ i. all 0 o (omega arith) i ∷ all_made os (All-tail (λ x. made (name_in x) ≡ x) o os all) i

-- how often a name stands in a list
abbrev count : Name → List Name → ℕ
count q [] = 0
count q (name ∷ names) = cond (eq_by_cmp name_cmp q name) 1 0 + count q names

-- so it is in another order
count_sum : (q : Name) (names : List Name)
    → sum_by (λ name. cond (eq_by_cmp name_cmp q name) 1 0) names ≡ count q names
count_sum q [] = refl
count_sum q (name ∷ names) = sum_by-cons (λ name. cond (eq_by_cmp name_cmp q name) 1 0) name names
    ∙ ap (λ n. cond (eq_by_cmp name_cmp q name) 1 0 + n) (count_sum q names)

-- a name comes as often in any order
count_anyhow : (q : Name) (names others : List Name) → IsPermutation names others
    → count q others ≡ count q names
count_anyhow q names others same = sym (count_sum q others)
    ∙ sum_by-IsPermutation (λ name. cond (eq_by_cmp name_cmp q name) 1 0) names others same
    ∙ count_sum q names

-- names with nothing beside them
abbrev bare : List Name → List (Name × Unit {0})
bare names = map (λ name. (name, tt)) names

-- a name that isn't less than another and isn't it is above it
above : (a b : Name) → is_lt (name_cmp b a) ≡ false → (a ≡ b → ⊥) → is_lt (name_cmp a b) ≡ true
above a b low apart = by (name_cmp a b) refl
  where
    by : (o : Ordering) → name_cmp a b ≡ o → is_lt (name_cmp a b) ≡ true
    by Less e = ap is_lt e
    by Equal e = absurd (apart (exact_bytes a b e))
    by Greater e = absurd
        (let back = nat_list_cmp_total.antisymm b a ∙ ap ordering_reverse e in
        true≢false (sym (ap is_lt back) ∙ low))

-- what a name is below is above what is below it
below_more : (a b : Name) (names : List Name) → is_lt (name_cmp a b) ≡ true
    → below_all name_cmp b (bare names) ≡ true → below_all name_cmp a (bare names) ≡ true
below_more a b [] low all = refl
below_more a b (c ∷ names) low all =
    let parts = and_parts (is_lt (name_cmp b c)) (below_all name_cmp b (bare names)) all in
    let less = nat_list_cmp_total.trans a b c (less_of _ low) (less_of _ parts.0) in
    and_from _ _ (ap is_lt less) (below_more a b names low parts.1)
  where
    less_of : (o : Ordering) → is_lt o ≡ true → o ≡ Less
    less_of Less e = refl
    less_of Equal e = absurd (true≢false (sym e))
    less_of Greater e = absurd (true≢false (sym e))

-- names in order of which none comes twice rise
rise : (names : List Name) → IsSorted name_cmp names → ((q : Name) → count q names ≤ 1)
    → is_sorted name_cmp (bare names) ≡ true
rise [] sorted once = refl
rise (a ∷ names) sorted once =
    let below = rise names (tail names sorted) (λ q. omega (arith, once q)) in
    and_from _ _ (first names sorted once below) below
  where
    tail : (names : List Name) → IsSorted name_cmp (a ∷ names) → IsSorted name_cmp names
    tail names sorted k d low high = let next : suc k + 1 ≡ suc (k + 1) = omega arith in
        let it = sorted (suc k) d (omega arith) (omega (arith, high)) in
        subst (λ j. is_lt (name_cmp (slice_index_or (a ∷ names) j d) (slice_index_or names k d))
        ≡ false) next it

    first : (names : List Name) → IsSorted name_cmp (a ∷ names)
        → ((q : Name) → count q (a ∷ names) ≤ 1) → is_sorted name_cmp (bare names) ≡ true
        → below_all name_cmp a (bare names) ≡ true
    first [] sorted once rises = refl
    first (b ∷ names) sorted once rises =
        let low = sorted 0 a (omega arith) (omega arith) in
        let less = above a b low (λ same. twice b names same (once a)) in
        and_from _ _ less (below_more a b names less (and_parts _ _ rises).0)
      where
        twice : (b : Name) (names : List Name) → a ≡ b → count a (a ∷ b ∷ names) ≤ 1 → ⊥
        twice b names same most =
            let one : eq_by_cmp name_cmp a a ≡ true = ap is_eq (tied_itself nat_list_cmp_total a) in
            let two : eq_by_cmp name_cmp a b ≡ true = ap (eq_by_cmp name_cmp a) (sym same) ∙ one in
            let sum : count a (a ∷ b ∷ names) ≡ 1 + (1 + count a names) = rw (one, two) refl in
            omega (arith, most, sum)

-- the keys of a kind in a list of entries
find_kind : (kind : ℕ) (q : Name) (es : List Entry)
    → list_any (eq_by_cmp name_cmp q) (names_among kind (map (λ (e : Entry). e.0) es))
    ≡ is_some (find key_cmp (kind, q) es)
unfolding names_among
find_kind kind q [] = refl
find_kind kind q (e ∷ es) = elim (cases_eq e.0.0 kind) [
  | inl same ↦
      let kinds : nat_cmp kind e.0.0 ≡ Equal = ap (nat_cmp kind) same
      ∙ tied_itself nat_cmp_total kind in
      rw (eq-eqb e.0.0 kind same, kinds) (found (eq_by_cmp name_cmp q e.0.1) (find_kind kind q es))
  | inr other ↦
      let apart : is_eq (nat_cmp kind e.0.0) ≡ false =
      ties_not kind e.0.0 (λ same. other (sym same)) in
      rw (ne_eqb e.0.0 kind other)
      (find_kind kind q es ∙ ap is_some
      (sym (ap (λ b. cond b (Some e.1) (find key_cmp (kind, q) es))
      (skipped (nat_cmp kind e.0.0) (name_cmp q e.0.1) apart))))
]
  where
    found : (b : Bool)
        → list_any (eq_by_cmp name_cmp q) (names_among kind (map (λ (e : Entry). e.0) es))
        ≡ is_some (find key_cmp (kind, q) es)
        → (b || list_any (eq_by_cmp name_cmp q) (names_among kind (map (λ (e : Entry). e.0) es)))
        ≡ is_some (cond b (Some e.1) (find key_cmp (kind, q) es))
    found true below = refl
    found false below = below

    ties_not : (a b : ℕ) → (a ≡ b → ⊥) → is_eq (nat_cmp a b) ≡ false
    ties_not a b apart = elim (cases_Bool (is_eq (nat_cmp a b))) [
      | inl tied ↦ absurd (apart (exact_unsigned a b ((Equal-is (nat_cmp a b)).0 tied)))
      | inr untied ↦ untied
    ]

    skipped : (a b : Ordering) → is_eq a ≡ false → is_eq (ordering_then a b) ≡ false
    skipped Less b e = refl
    skipped Equal b e = absurd (true≢false e)
    skipped Greater b e = refl

-- the names of the rows of a kind are those of its keys
row_kind : (kind : ℕ) (q : Name) (rows : List Row) → are_kept rows ≡ true
    → list_any (eq_by_cmp name_cmp q) (map name_of (filter (λ row. has_kind kind (entry row)) rows))
    ≡ is_some (find key_cmp (kind, q) (entries rows))
row_kind kind q [] kept = refl
row_kind kind q (row ∷ rows) kept =
    let k = kept_before row rows kept in
    let below = row_kind kind q rows k.others in
    let shape = shape_of row k.pair k.is in
    let named : name_of row ≡ k.pair.0.1 = ap name_of shape.1 in
    rw k.is (by k.pair (nat_cmp kind k.pair.0.0) named below)
  where
    by : (e : Entry) (o : Ordering) → name_of row ≡ e.0.1
        → list_any (eq_by_cmp name_cmp q)
        (map name_of (filter (λ row. has_kind kind (entry row)) rows))
        ≡ is_some (find key_cmp (kind, q) (entries rows))
        → list_any (eq_by_cmp name_cmp q)
        (map name_of (cond (is_eq o) (row ∷ filter (λ row. has_kind kind (entry row)) rows)
        (filter (λ row. has_kind kind (entry row)) rows)))
        ≡ is_some (cond (is_eq (ordering_then o (name_cmp q e.0.1))) (Some e.1)
        (find key_cmp (kind, q) (entries rows)))
    by e Less named below = below
    by e Equal named below = rw named (either (is_eq (name_cmp q e.0.1)) below)
      where
        either : (b : Bool)
            → list_any (eq_by_cmp name_cmp q)
            (map name_of (filter (λ row. has_kind kind (entry row)) rows))
            ≡ is_some (find key_cmp (kind, q) (entries rows))
            → (b || list_any (eq_by_cmp name_cmp q)
            (map name_of (filter (λ row. has_kind kind (entry row)) rows)))
            ≡ is_some (cond b (Some e.1) (find key_cmp (kind, q) (entries rows)))
        either true below = refl
        either false below = below
    by e Greater named below = below

-- of kept rows no name comes twice in a kind
once : (kind : ℕ) (q : Name) (rows : List Row) → are_kept rows ≡ true
    → count q (map name_of (filter (λ row. has_kind kind (entry row)) rows)) ≤ 1
once kind q [] kept = omega arith
once kind q (row ∷ rows) kept =
    let k = kept_before row rows kept in
    let below = once kind q rows k.others in
    by k below (is_eq (nat_cmp kind k.pair.0.0)) refl (eq_by_cmp name_cmp q (name_of row)) refl
  where
    none_of : (names : List Name) → list_any (eq_by_cmp name_cmp q) names ≡ false
        → count q names ≡ 0
    none_of [] e = refl
    none_of (name ∷ names) e =
        elim (eq_by_cmp name_cmp q name) as
        (λ b. (b || list_any (eq_by_cmp name_cmp q) names) ≡ false
        → ◌≡◌ {A = ℕ} (cond b 1 0 + count q names) 0) [
          | true ↦ λ e. absurd (true≢false e)
          | false ↦ λ e. omega (arith, none_of names e)
        ] e

    by : (k : IsKeptBefore row rows)
        → count q (map name_of (filter (λ row. has_kind kind (entry row)) rows)) ≤ 1 → (b : Bool)
        → is_eq (nat_cmp kind k.pair.0.0) ≡ b → (t : Bool) → eq_by_cmp name_cmp q (name_of row) ≡ t
        → count q (map name_of (filter (λ row. has_kind kind (entry row)) (row ∷ rows))) ≤ 1
    by k below false other t tied =
        let no : has_kind kind (entry row) ≡ false = rw k.is other in rw no below
    by k below true same false apart =
        let yes : has_kind kind (entry row) ≡ true = rw k.is same in
        let less : ◌≡◌ {A = ℕ} (cond (eq_by_cmp name_cmp q (name_of row)) 1 0) 0 =
        ap (λ b. cond {A = ℕ} b 1 0) apart in
        rw yes (omega (arith, below, less))
    by k below true same true tied =
        let yes : has_kind kind (entry row) ≡ true = rw k.is same in
        let shape = shape_of row k.pair k.is in
        let name : q ≡ k.pair.0.1 = exact_bytes q (name_of row) ((Equal-is _).0 tied)
        ∙ ap name_of shape.1 in
        let number : kind ≡ k.pair.0.0 = exact_unsigned kind k.pair.0.0 ((Equal-is _).0 same) in
        let key : ◌≡◌ {A = Key} (kind, q) k.pair.0 = λ i. (number i, name i) in
        let absent : find key_cmp (kind, q) (entries rows) ≡ None =
        rw key (no_other row rows k.pair k.is k.apart k.others) in
        let none : count q (map name_of (filter (λ row. has_kind kind (entry row)) rows)) ≡ 0 =
        none_of _ (row_kind kind q rows k.others ∙ ap is_some absent) in
        let one : ◌≡◌ {A = ℕ} (cond (eq_by_cmp name_cmp q (name_of row)) 1 0) 1 =
        ap (λ b. cond {A = ℕ} b 1 0) tied in
        rw yes (omega (arith, none, one))

-- the names of a kind rise, as the keys do
names_rise : (kind : ℕ) (es : List Entry) → T (is_sorted key_cmp es)
    → is_sorted name_cmp (bare (names_among kind (map (λ (e : Entry). e.0) es))) ≡ true
unfolding names_among
names_rise kind [] sorted = refl
names_rise kind (e ∷ es) sorted =
    let parts = and_parts (below_all key_cmp e.0 es) (is_sorted key_cmp es) (true_of _ sorted) in
    let below = names_rise kind es (subst T (sym parts.1) tt) in
    elim (cases_eq e.0.0 kind) [
      | inl same ↦ rw (eq-eqb e.0.0 kind same) (and_from _ _ (first es same parts.0) below)
      | inr other ↦ rw (ne_eqb e.0.0 kind other) below
    ]
  where
    true_of : (b : Bool) → T b → b ≡ true
    true_of true t = refl
    true_of false t = absurd t

    first : (es : List Entry) → e.0.0 ≡ kind → below_all key_cmp e.0 es ≡ true
        → below_all name_cmp e.0.1 (bare (names_among kind (map (λ (e : Entry). e.0) es))) ≡ true
    first [] same all = refl
    first (f ∷ es) same all =
        let parts = and_parts (is_lt (key_cmp e.0 f.0)) (below_all key_cmp e.0 es) all in
        let below = first es same parts.1 in
        elim (cases_eq f.0.0 kind) [
          | inl also ↦
              let tied : nat_cmp e.0.0 f.0.0 ≡ Equal = ap (λ n. nat_cmp n f.0.0) (same ∙ sym also)
              ∙ tied_itself nat_cmp_total f.0.0 in
              let less : is_lt (name_cmp e.0.1 f.0.1) ≡ true =
              sym (ap (λ o. is_lt (ordering_then o (name_cmp e.0.1 f.0.1))) tied) ∙ parts.0 in
              rw (eq-eqb f.0.0 kind also) (and_from _ _ less below)
          | inr other ↦ rw (ne_eqb f.0.0 kind other) below
        ]

-- names that rise and are the same are the same list
same_names : (names others : List Name) → is_sorted name_cmp (bare names) ≡ true
    → is_sorted name_cmp (bare others) ≡ true
    → ((q : Name) → list_any (eq_by_cmp name_cmp q) names ≡ list_any (eq_by_cmp name_cmp q) others)
    → names ≡ others
same_names names others rises others_rise same =
    sym (unbare names)
    ∙ ap (map (λ (e : Name × Unit {0}). e.0))
    (same_entries name_cmp nat_list_cmp_total exact_bytes (bare names) (bare others)
    (subst T (sym rises) tt) (subst T (sym others_rise) tt) (λ q.
    one_unit _ _ (is_some-find name_cmp q (bare names)
    ∙ ap (list_any (eq_by_cmp name_cmp q)) (unbare names) ∙ same q
    ∙ ap (list_any (eq_by_cmp name_cmp q)) (sym (unbare others))
    ∙ sym (is_some-find name_cmp q (bare others)))))
    ∙ unbare others
  where
    unbare : (names : List Name) → map (λ (e : Name × Unit {0}). e.0) (bare names) ≡ names
    unbare [] = refl
    unbare (name ∷ names) = ap (λ ns. name ∷ ns) (unbare names)

    one_unit : (a b : Option (Unit {0})) → is_some a ≡ is_some b → a ≡ b
    one_unit None None e = refl
    one_unit None (Some b) e = absurd (true≢false (sym e))
    one_unit (Some a) None e = absurd (true≢false e)
    one_unit (Some a) (Some b) e = refl

-- a row passes the test of its kind
kind_is : (kind : ℕ) (row : Row) (e : Entry) → entry row ≡ Some e
    → list_all (holds ((Int (pos kind) ∷ []) ∷ row ∷ [])) (of_kind ∷ []) ≡ has_kind kind (entry row)
kind_is kind row e is =
    let shape = shape_of row e is in
    rw (kind_passes (Int (pos kind) ∷ []) kind row shape.0 e.0.0 _ refl shape.1, is)
    (alone (is_eq (nat_cmp kind e.0.0)))
  where
    alone : (b : Bool) → (b && true) ≡ b
    alone true = refl
    alone false = refl

-- what the query of names shows
pub shows_names : (kind : ℕ) (db : Trees) (shown : List Row) → are_kept (db 0) ≡ true
    → IsAnswer names_query (overlay db []) (Int (pos kind) ∷ []) shown
    → shown ≡ map name_shown (names_of kind (rows_in (db 0)))
shows_names kind db shown kept a =
    let params = Int (pos kind) ∷ [] in
    let pass = λ (row : Row). has_kind kind (entry row) in
    let show = λ (row : Row). output names_query (params ∷ row ∷ []) in
    let passed = filter pass (db 0) in
    let all = answered (of_kind ∷ []) (col 1 2 ∷ [])
    ((col 1 2, record { collation = Binary; descending = false }) ∷ []) params pass db shown
    kept (kind_is kind) a in
    let names = map name_in all.ordered in
    let texts : map made names ≡ all.ordered =
    all_made all.ordered (All-permutation (λ (o : Output). made (name_in o) ≡ o)
    (map show passed) all.ordered all.same (each (db 0) kept)) in
    let moved : IsPermutation (map name_of passed) names =
    subst (λ ns. IsPermutation ns names) (shows passed)
    (IsPermutation-map name_in (map show passed) all.ordered all.same) in
    let sorted = in_order names
    (subst (IsSorted (output_cmp names_query)) (sym texts) all.sorted) in
    let rises = rise names sorted
    (λ q. omega (
      arith,
      once kind q (db 0) kept,
      count_anyhow q (map name_of passed) names
          moved,
    )) in
    let m = rows_in (db 0) in
    let others = names_of kind m in
    let same : names ≡ others =
    same_names names others rises (names_rise kind (listed m) (entries_sorted m)) (λ q.
    sym (list_any-IsPermutation (eq_by_cmp name_cmp q) (map name_of passed) names moved)
    ∙ row_kind kind q (db 0) kept
    ∙ ap is_some (sym (get-from_entries keys_total (entries (db 0)) (kind, q))
    ∙ get-entries m (kind, q))
    ∙ sym (find_kind kind q (listed m))) in
    all.is ∙ ap (map (λ (o : Output). o.1)) (sym texts) ∙ seconds names ∙ ap (map name_shown) same
  where
    each : (rows : List Row) → are_kept rows ≡ true
        → All (λ (o : Output). made (name_in o) ≡ o)
        (map (λ (row : Row). output names_query ((Int (pos kind) ∷ []) ∷ row ∷ []))
        (filter (λ row. has_kind kind (entry row)) rows))
    each [] kept = All-nil (λ (o : Output). made (name_in o) ≡ o)
    each (row ∷ rows) kept =
        let k = kept_before row rows kept in
        let below = each rows k.others in
        let shape = shape_of row k.pair k.is in
        let one : made (name_of row) ≡ output names_query ((Int (pos kind) ∷ []) ∷ row ∷ []) =
        rw shape.1 refl in
        elim (has_kind kind (entry row)) as
        (λ b. All (λ (o : Output). made (name_in o) ≡ o)
        (map (λ (row : Row). output names_query ((Int (pos kind) ∷ []) ∷ row ∷ []))
        (cond b (row ∷ filter (λ row. has_kind kind (entry row)) rows)
        (filter (λ row. has_kind kind (entry row)) rows)))) [
          | true ↦ All-cons (λ (o : Output). made (name_in o) ≡ o)
              (output names_query ((Int (pos kind) ∷ []) ∷ row ∷ []))
              (map (λ (row : Row). output names_query ((Int (pos kind) ∷ []) ∷ row ∷ []))
              (filter (λ row. has_kind kind (entry row)) rows)) one below
          | false ↦ below
        ]

    shows : (rows : List Row)
        → map name_in (map (λ (row : Row). output names_query ((Int (pos kind) ∷ []) ∷ row ∷ []))
        rows) ≡ map name_of rows
    shows [] = refl
    shows (row ∷ rows) = ap (λ ns. name_of row ∷ ns) (shows rows)

    seconds : (names : List Name)
        → map (λ (o : Output). o.1) (map made names) ≡ map name_shown names
    seconds [] = refl
    seconds (name ∷ names) = ap (λ rs. name_shown name ∷ rs) (seconds names)

    as_many : (names : List Name) → length (map made names) ≡ length names
    as_many [] = refl
    as_many (name ∷ names) = ap suc (as_many names)

    in_order : (names : List Name) → IsSorted (output_cmp names_query) (map made names)
        → IsSorted name_cmp names
    in_order names sorted k d low high =
        let it = sorted k (made d) low (omega (arith, high, as_many names)) in
        let a = slice_index_or names (k + 1) d in
        let b = slice_index_or names k d in
        let here : k < length names = omega (arith, high) in
        let plain : is_lt (output_cmp names_query (made a) (made b)) ≡ false =
        rw (
          get_or-map made names (k + 1) d (made d) high,
          get_or-map made names k d (made d)
              here,
        ) at it in
        sym (ap is_lt (then-Equal (value_cmp (Text a) (Text b)) ∙ value_cmp-Text a b)) ∙ plain
