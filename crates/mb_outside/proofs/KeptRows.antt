-- The rows that a tree of keys stands for, under a look-up, an insertion and a removal in the tree.
use Rattle.std.proofs.Common.{Bool, Equal, Less, List, None, Option, Ordering, Some, [], ap, append-nil, cond, arith, eq-eqb, false, length, map, ne_eqb, refl, subst, sym, true, ℕ, ◌++◌, ◌∙◌, ◌∷◌, ◌≡◌}
use Rattle.std.proofs.lemmas.Cmp.{eq_by_cmp_equiv, nat_cmp_total, nat_list_cmp_total, on_total, then_total}
use Rattle.std.proofs.lemmas.Map.Keys.{sorted_head, sorted_tail}
use Rattle.std.proofs.lemmas.Map.Lookups.{exact_bytes, exact_pairs, exact_unsigned}
use Rattle.std.specs.BTreeMap as tree
use Rattle.std.specs.BTreeMap.{BTreeMap, UpdatesBy, is_at}
use Rattle.std.specs.Cmp.{Equal-is, IsTotalOrder}
use Rattle.std.specs.Cmp.Lexicographic.{slice_cmp}
use Rattle.std.specs.FinMap.{empty, entries, entries-insert, find, from_entries, get, get-from_entries, get-insert, get-remove, insert, len-empty, len-entries, put, remove, same_map}
use Rattle.std.specs.FinMap.Entries.{by_order}
use Rattle.std.specs.List.{AllByRecursion}
use Rattle.std.specs.List.Sorted.{IsStrictlySortedBy}
use Rattle.std.specs.Map.{AreApart, IsKeyTest, KeepsOthers, keys_of, lookup}
use Rattle.std.specs.Ordering.{eq_by_cmp, is_eq, nat_cmp}
use Rattle.std.specs.Prelude.{String, Vec, option_map, string_bytes}
use Rattle.std.specs.declared.alloc.Global.{Global}
use Rattle.mb_outside.specs.Rows.{Key, key_cmp, names_among, names_of}
use Rattle.mb_outside.specs.RowsInTree.{key_of, tree_row, tree_rows}
use Rattle.mb_outside.specs.declared.memory_keeper.RowKey.{RowKey}

-- a tree of keys
abbrev pub Tree : Type 0
Tree = BTreeMap RowKey (Vec ℕ Global)

-- the bytes of a body
abbrev pub items : Vec ℕ Global → List ℕ
items body = body.items

-- how a key compares to those of the tree
abbrev pub at : Key → RowKey → Ordering
at q k = key_cmp q (key_of k)

-- how the tree compares its keys
abbrev pub row_cmp : RowKey → RowKey → Ordering
row_cmp a b = key_cmp (key_of a) (key_of b)

-- keys are in a total order
pub keys_total : IsTotalOrder key_cmp
keys_total =
    then_total (on_total (λ (k : Key). k.0) nat_cmp_total)
    (on_total (λ (k : Key). k.1) nat_list_cmp_total)

-- keys that compare alike are one
pub exact_keys : (a b : Key) → key_cmp a b ≡ Equal → a ≡ b
exact_keys a b e = exact_pairs nat_cmp (slice_cmp nat_cmp) exact_unsigned exact_bytes a b e

-- a comparison that ties answers `Equal`
equal : (r : Ordering) → is_eq r ≡ true → r ≡ Equal
equal r e = (Equal-is r).0 e

-- a key that ties with one ties with none that differs from it
apart : (q key k : Key) → eq_by_cmp key_cmp q key ≡ false → is_eq (key_cmp key k) ≡ true →
    is_eq (key_cmp q k) ≡ false
apart q key k e tied = subst (λ l. is_eq (key_cmp q l) ≡ false) (exact_keys key k (equal _ tied)) e

-- a look-up for another key finds the same before and after
other_entries : {X : Type 0} (test : RowKey → Bool) (old new : List (RowKey × X)) →
    KeepsOthers (eq_by_cmp row_cmp) test old new → (other : RowKey → Bool) →
    IsKeyTest (eq_by_cmp row_cmp) other → AreApart test other → lookup other new ≡ lookup other old
unfolding KeepsOthers
other_entries test old new keeps = keeps

-- a look-up among the entries
find-tree_row : (q : Key) (es : List (RowKey × Vec ℕ Global)) →
    find key_cmp q (map tree_row es) ≡ option_map items (lookup (is_at (at q)) es)
find-tree_row q [] = refl
find-tree_row q (e ∷ es) =
    let rest = find-tree_row q es in
    elim (is_eq (at q e.0))
    as (λ b. cond b (Some (items e.1)) (find key_cmp q (map tree_row es))
    ≡ option_map items (cond b (Some e.1) (lookup (is_at (at q)) es)))
    [ true ↦ refl | false ↦ rest ]

-- the rows have under a key what the tree has
pub get-tree_rows : (bodies : Tree) (q : Key) →
    get (tree_rows bodies) q ≡ option_map items (tree.get_by (at q) bodies)
get-tree_rows bodies q =
    get-from_entries keys_total (map tree_row bodies.entries) q ∙ find-tree_row q bodies.entries

-- what an update of the tree at a key is in the rows
get-updated : (old new : Tree) (key : RowKey) (body : Option (Vec ℕ Global)) →
    tree.UpdatesBy row_cmp (row_cmp key) old new body → (q : Key) →
    get (tree_rows new) q
    ≡ cond (eq_by_cmp key_cmp q (key_of key)) (option_map items body) (get (tree_rows old) q)
get-updated old new key body updates q = by (eq_by_cmp key_cmp q (key_of key)) refl
  where
    by : (b : Bool) → eq_by_cmp key_cmp q (key_of key) ≡ b →
        get (tree_rows new) q ≡ cond b (option_map items body) (get (tree_rows old) q)
    by true e =
        let same : q ≡ key_of key = exact_keys q (key_of key) (equal (key_cmp q (key_of key)) e) in
        ap (get (tree_rows new)) same ∙ get-tree_rows new (key_of key)
        ∙ ap (option_map items) updates.1
    by false e =
        get-tree_rows new q
        ∙ ap (option_map items)
        (other_entries (is_at (row_cmp key)) old.entries new.entries updates.3
        (is_at (at q)) (λ x y. (eq_by_cmp_equiv keys_total).congr q (key_of x) (key_of y))
        (λ k tied. apart q (key_of key) (key_of k) e tied))
        ∙ sym (get-tree_rows old q)

-- a tree with the same entries has the same rows
pub tree_rows-same : (old new : Tree) → tree.IsUnchanged old new → tree_rows new ≡ tree_rows old
tree_rows-same old new same = ap (λ es. from_entries (map tree_row es)) same

-- an insertion in the tree is one in the rows
pub tree_rows-inserted : (old new : Tree) (key : RowKey) (body : Vec ℕ Global) →
    tree.UpdatesBy row_cmp (row_cmp key) old new (Some body) →
    tree_rows new ≡ insert (tree_rows old) (key_of key) (items body)
tree_rows-inserted old new key body updates =
    same_map keys_total exact_keys _ _ (λ q.
    get-updated old new key (Some body) updates q
    ∙ sym (get-insert keys_total (tree_rows old) (key_of key) (items body) q))

-- a removal from the tree is one from the rows
pub tree_rows-removed : (old new : Tree) (key : RowKey) →
    tree.UpdatesBy row_cmp (row_cmp key) old new None →
    tree_rows new ≡ remove (tree_rows old) (key_of key)
tree_rows-removed old new key updates =
    same_map keys_total exact_keys _ _ (λ q.
    get-updated old new key None updates q
    ∙ sym (get-remove keys_total (tree_rows old) (key_of key) q))

-- a list without elements
no_length : {A : Type 0} (xs : List A) → length xs ≡ 0 → xs ≡ []
no_length [] e = refl
no_length (x ∷ xs) e = absurd (omega arith)

-- the entries of the map of ascending entries
entries-from_entries : (es : List (Key × List ℕ)) →
    IsStrictlySortedBy key_cmp (map (λ (e : Key × List ℕ). e.0) es) →
    entries (from_entries {R = key_cmp} es) ≡ es
entries-from_entries [] sorted = no_length (entries empty)
    (sym (len-entries empty) ∙ len-empty key_cmp (List ℕ))
entries-from_entries (e ∷ es) sorted =
    let keys = map (λ (e : Key × List ℕ). e.0) es in
    let rest = entries-from_entries es (sorted_tail key_cmp e.0 keys sorted) in
    entries-insert keys_total (from_entries es) e.0 e.1 ∙ ap (put key_cmp e.0 e.1) rest
    ∙ front e es (sorted_head key_cmp e.0 keys sorted)
  where
    front : (e : Key × List ℕ) (es : List (Key × List ℕ)) →
        AllByRecursion (λ y. key_cmp e.0 y ≡ Less) (map (λ (e : Key × List ℕ). e.0) es) →
        put key_cmp e.0 e.1 es ≡ e ∷ es
    front e [] all = refl
    front e (f ∷ es) all = ap (λ o. by_order o (e ∷ f ∷ es) ((f.0, e.1) ∷ es)
        (f ∷ put key_cmp e.0 e.1 es)) all.0

-- the keys of the tree are those of the rows, in order
keys-tree_row : (es : List (RowKey × Vec ℕ Global)) →
    map (λ (e : Key × List ℕ). e.0) (map tree_row es) ≡ map key_of (keys_of es)
keys-tree_row [] = refl
keys-tree_row (e ∷ es) = ap (λ ks. key_of e.0 ∷ ks) (keys-tree_row es)

-- ascending keys of the tree are ascending keys of the rows
sorted-key_of : (ks : List RowKey) → IsStrictlySortedBy row_cmp ks →
    IsStrictlySortedBy key_cmp (map key_of ks)
unfolding IsStrictlySortedBy
sorted-key_of [] sorted = tt
sorted-key_of (k ∷ ks) sorted = (each k ks sorted.0, sorted-key_of ks sorted.1)
  where
    each : (k : RowKey) (ks : List RowKey) → AllByRecursion (λ y. row_cmp k y ≡ Less) ks →
        AllByRecursion (λ y. key_cmp (key_of k) y ≡ Less) (map key_of ks)
    each k [] all = tt
    each k (l ∷ ks) all = (all.0, each k ks all.1)

-- the names of a kind in the rows are those among the keys of the tree
pub names-tree_rows : (kind : ℕ) (bodies : Tree) → tree.IsOrdered row_cmp bodies →
    names_of kind (tree_rows bodies) ≡ names_among kind (map key_of (tree.keys bodies))
names-tree_rows kind bodies ordered =
    let es = map tree_row bodies.entries in
    let sorted = subst (IsStrictlySortedBy key_cmp) (sym (keys-tree_row bodies.entries))
    (sorted-key_of (keys_of bodies.entries) ordered) in
    ap (λ (es : List (Key × List ℕ)). names_among kind (map (λ e. e.0) es))
    (entries-from_entries es sorted)
    ∙ ap (names_among kind) (keys-tree_row bodies.entries)

-- a key of the kind is listed
pub names-kept : (kind : ℕ) (names : List (String Global)) (name : String Global) (key : RowKey)
    (keys : List RowKey) → key.kind ≡ kind → string_bytes name ≡ string_bytes key.name →
    map string_bytes (names ++ name ∷ []) ++ names_among kind (map key_of keys)
    ≡ map string_bytes names ++ names_among kind (map key_of (key ∷ keys))
unfolding names_among
names-kept kind [] name key keys e same =
    rw (eq-eqb key.kind kind e) (ap (λ n. n ∷ names_among kind (map key_of keys)) same)
names-kept kind (first ∷ names) name key keys e same =
    ap (λ ns. string_bytes first ∷ ns) (names-kept kind names name key keys e same)

-- and no other
pub names-skipped : (kind : ℕ) (key : Key) (keys : List Key) → (key.0 ≡ kind → ⊥) →
    names_among kind keys ≡ names_among kind (key ∷ keys)
unfolding names_among
names-skipped kind key keys e = rw (ne_eqb key.0 kind e) refl

-- no key, no name
pub names-none : (kind : ℕ) (done : List (List ℕ)) → done ++ names_among kind [] ≡ done
unfolding names_among
names-none kind done = append-nil done
