-- Rows of the table that share neither number nor key: what a look-up, an insertion and a deletion
-- make of them.
use Rattle.std.proofs.Common.{Bool, Equal, Greater, Less, List, None, Option, Some, [], ap, cond, false, is_some, not, refl, subst, sym, true, true≢false, ℕ, ℤ, ◌&&◌, ◌||◌, ◌∙◌, ◌∷◌, ◌≡◌, map}
use Rattle.std.proofs.lemmas.Bool.{and_from, and_parts, not-true, or_parts}
use Rattle.std.proofs.lemmas.Cmp.{eq_by_cmp_equiv}
use Rattle.std.proofs.lemmas.List.Sorted.{list_any-IsPermutation}
use Rattle.std.specs.Cmp.{Equal-is, tied_itself}
use Rattle.std.specs.FinMap.{find}
use Rattle.std.specs.List.{filter, filter_map, list_all, list_any}
use Rattle.std.specs.List.Sorted.{IsPermutation}
use Rattle.std.specs.Ordering.{eq_by_cmp, is_eq, match_ordering}
use Rattle.mb_keeper.specs.RowsInTable.{are_apart, are_kept, entry, same_key}
use Rattle.mb_outside.proofs.KeptRows.{exact_keys, keys_total}
use Rattle.mb_outside.specs.Rows.{Key, key_cmp}
use Rattle.sqlite.specs.Edit.{id_in, is_taken, without_all}
use Rattle.sqlite.specs.Order.{Row, value_cmp}
use Rattle.sqlite.specs.Tree.{put_row, rowid, has_rowid, without_rowid}
use Rattle.sqlite.specs.declared.types.Value.TheVariants.{Int}
use Rattle.sqlite_value.proofs.OrderLemmas.{value_cmp_total}

-- a row as its key and body
abbrev pub Entry : Type 0
Entry = Key × List ℕ

-- the entries of rows
abbrev pub entries : List Row → List Entry
entries rows = filter_map entry rows

-- keys that a test finds alike are one
pub one_key : (a b : Key) → eq_by_cmp key_cmp a b ≡ true → a ≡ b
one_key a b e = exact_keys a b ((Equal-is (key_cmp a b)).0 e)

-- the row has this key
abbrev pub has_key : Key → Row → Bool
has_key q row = same_key (Some (q, [])) (entry row)

-- what is known of the first of kept rows, and of the others
pub record IsKeptBefore (row : Row) (rows : List Row) : Type 0 where
  pub pair : Entry
  pub is : entry row ≡ Some pair
  pub apart : list_all (are_apart row) rows ≡ true
  pub others : are_kept rows ≡ true

-- what there is
pub there : {A : Type 0} (o : Option A) → is_some o ≡ true → (a : A) × (o ≡ Some a)
there None e = absurd (true≢false (sym e))
there (Some a) e = (a, refl)

-- what is kept of rows is kept of the first and of the others
pub kept_before : (row : Row) (rows : List Row) → are_kept (row ∷ rows) ≡ true
    → IsKeptBefore row rows
unfolding are_kept
kept_before row rows e =
    let one = and_parts (is_some (entry row)) (list_all (are_apart row) rows && are_kept rows) e in
    let two = and_parts (list_all (are_apart row) rows) (are_kept rows) one.1 in
    let pair = there (entry row) one.0 in
    record { pair = pair.0; is = pair.1; apart = two.0; others = two.1 }

-- a look-up among the entries of a row and others
pub find_first : (q : Key) (row : Row) (rows : List Row) (e : Entry) → entry row ≡ Some e
    → find key_cmp q (entries (row ∷ rows))
    ≡ cond (eq_by_cmp key_cmp q e.0) (Some e.1) (find key_cmp q (entries rows))
find_first q row rows e is = rw is refl

-- rows that are apart from a row don't have its key
none_else : (row : Row) (rows : List Row) (e : Entry) → entry row ≡ Some e
    → list_all (are_apart row) rows ≡ true → filter (has_key e.0) rows ≡ []
none_else row [] e is apart = refl
none_else row (other ∷ rows) e is apart =
    let parts = and_parts (are_apart row other) (list_all (are_apart row) rows) apart in
    let keys = (and_parts _ _ parts.0).1 in
    let differs : same_key (entry row) (entry other) ≡ false = not-true _ keys in
    let same : has_key e.0 other ≡ same_key (entry row) (entry other) = like (entry other) in
    rw (same ∙ differs) (none_else row rows e is parts.1)
  where
    like : (o : Option Entry) → same_key (Some (e.0, [])) o ≡ same_key (entry row) o
    like None = rw is refl
    like (Some x) = rw is refl

-- so a look-up doesn't find it among them
pub no_other : (row : Row) (rows : List Row) (e : Entry) → entry row ≡ Some e
    → list_all (are_apart row) rows ≡ true → are_kept rows ≡ true
    → find key_cmp e.0 (entries rows) ≡ None
no_other row [] e is apart kept = refl
no_other row (other ∷ rows) e is apart kept =
    let parts = and_parts (are_apart row other) (list_all (are_apart row) rows) apart in
    let k = kept_before other rows kept in
    let keys : same_key (entry row) (entry other) ≡ false = not-true _ (and_parts _ _ parts.0).1 in
    let differs : eq_by_cmp key_cmp e.0 k.pair.0 ≡ false = rw (is, k.is) at keys in
    find_first e.0 other rows k.pair k.is
    ∙ ap (λ b. cond b (Some k.pair.1) (find key_cmp e.0 (entries rows))) differs
    ∙ no_other row rows e is parts.1 k.others

-- the rows of a key are none or one, as a look-up finds
pub data Picked (q : Key) (rows : List Row) : Type 0 where
  no_row : filter (has_key q) rows ≡ [] → find key_cmp q (entries rows) ≡ None → Picked q rows
  one_row : (row : Row) (e : Entry) → filter (has_key q) rows ≡ row ∷ [] → entry row ≡ Some e
      → q ≡ e.0 → find key_cmp q (entries rows) ≡ Some e.1 → Picked q rows

-- of kept rows, one or none has the key
pub picked : (q : Key) (rows : List Row) → are_kept rows ≡ true → Picked q rows
picked q [] kept = no_row refl refl
picked q (row ∷ rows) kept =
    let k = kept_before row rows kept in
    by k (picked q rows k.others) (eq_by_cmp key_cmp q k.pair.0) refl
  where
    by : (k : IsKeptBefore row rows) → Picked q rows → (b : Bool) → eq_by_cmp key_cmp q k.pair.0 ≡ b
        → Picked q (row ∷ rows)
    by k below true tied =
        let same : q ≡ k.pair.0 = one_key q k.pair.0 tied in
        let has : has_key q row ≡ true = rw k.is tied in
        one_row row k.pair
        (rw has (ap (λ ns. row ∷ ns)
        (ap (λ key. filter (has_key key) rows) same ∙ none_else row rows k.pair k.is k.apart)))
        k.is same
        (find_first q row rows k.pair k.is
        ∙ ap (λ b. cond b (Some k.pair.1) (find key_cmp q (entries rows))) tied)
    by k below false tied =
        let has : has_key q row ≡ false = rw k.is tied in
        let found : find key_cmp q (entries (row ∷ rows)) ≡ find key_cmp q (entries rows) =
        find_first q row rows k.pair k.is
        ∙ ap (λ b. cond b (Some k.pair.1) (find key_cmp q (entries rows))) tied in
        elim below [
          | no_row empty absent ↦ no_row (rw has empty) (found ∙ absent)
          | one_row other e is pair same there ↦
              one_row other e (rw has is) pair same (found ∙ there)
        ]

-- a look-up that finds nothing passed the first entry over
passed : (q : Key) (row : Row) (rows : List Row) (e : Entry) → entry row ≡ Some e
    → find key_cmp q (entries (row ∷ rows)) ≡ None
    → (eq_by_cmp key_cmp q e.0 ≡ false) × (find key_cmp q (entries rows) ≡ None)
passed q row rows e is absent = by (eq_by_cmp key_cmp q e.0) refl
  where
    by : (b : Bool) → eq_by_cmp key_cmp q e.0 ≡ b
        → (eq_by_cmp key_cmp q e.0 ≡ false) × (find key_cmp q (entries rows) ≡ None)
    by true tied = absurd
        (let one = sym (find_first q row rows e is
        ∙ ap (λ b. cond b (Some e.1) (find key_cmp q (entries rows))) tied) ∙ absent in cc)
    by false tied = (
      tied,
      sym
          (find_first q row rows e is
          ∙ ap (λ b. cond b (Some e.1) (find key_cmp q (entries rows))) tied) ∙ absent,
    )

-- two tests that don't both hold may be made in either order
turned : {A : Type 0} (a b : Bool) (x y z : A) → (a ≡ true → b ≡ true → ⊥)
    → cond a x (cond b y z) ≡ cond b y (cond a x z)
turned true true x y z apart = absurd (apart refl refl)
turned true false x y z apart = refl
turned false b x y z apart = refl

-- a row whose number and key are new is put into its place, and then a look-up finds it
pub find_put : (new : Row) (e : Entry) (rows : List Row) → entry new ≡ Some e
    → is_taken rows new ≡ false → are_kept rows ≡ true → find key_cmp e.0 (entries rows) ≡ None
    → (q : Key)
    → find key_cmp q (entries (put_row new rows))
    ≡ cond (eq_by_cmp key_cmp q e.0) (Some e.1) (find key_cmp q (entries rows))
find_put new e [] is free kept absent q = find_first q new [] e is
find_put new e (row ∷ rows) is free kept absent q =
    let k = kept_before row rows kept in
    let split = or_parts _ _ free in
    let steps = passed e.0 row rows k.pair k.is absent in
    let below = find_put new e rows is split.1 k.others steps.1 q in
    elim (value_cmp (rowid row) (rowid new)) as (λ o. is_eq o ≡ false →
    find key_cmp q (entries
    (match_ordering o (row ∷ put_row new rows) (new ∷ rows) (new ∷ row ∷ rows)))
    ≡ cond (eq_by_cmp key_cmp q e.0) (Some e.1) (find key_cmp q (entries (row ∷ rows)))) [
      | Less ↦ λ _. find_first q row (put_row new rows) k.pair k.is
          ∙ ap (cond (eq_by_cmp key_cmp q k.pair.0) (Some k.pair.1)) below
          ∙ turned _ _ _ _ _ (λ a b. absurd
          (let same = one_key q e.0 b in let no =
          subst (λ key. eq_by_cmp key_cmp key k.pair.0 ≡ true) same a in
          true≢false (sym no ∙ steps.0)))
          ∙ ap (cond (eq_by_cmp key_cmp q e.0) (Some e.1)) (sym (find_first q row rows k.pair k.is))
      | Equal ↦ λ no. absurd (true≢false no)
      | Greater ↦ λ _. find_first q new (row ∷ rows) e is
    ] split.0

-- a test of all rows goes on to hold where a row that passes is put among them
all_put : (test : Row → Bool) (new : Row) (rows : List Row) → test new ≡ true
    → list_all test rows ≡ true → list_all test (put_row new rows) ≡ true
all_put test new [] one all = and_from _ _ one all
all_put test new (row ∷ rows) one all =
    let parts = and_parts _ _ all in
    let below = all_put test new rows one parts.1 in
    elim (value_cmp (rowid row) (rowid new)) as
    (λ o. list_all test (match_ordering o (row ∷ put_row new rows) (new ∷ rows)
    (new ∷ row ∷ rows)) ≡ true) [
      | Less ↦ and_from _ _ parts.0 below
      | Equal ↦ and_from _ _ one parts.1
      | Greater ↦ and_from _ _ one all
    ]

-- the new row is apart from each row
apart_from_all : (new : Row) (e : Entry) (rows : List Row) → entry new ≡ Some e
    → is_taken rows new ≡ false → are_kept rows ≡ true → find key_cmp e.0 (entries rows) ≡ None
    → list_all (are_apart new) rows ≡ true
apart_from_all new e [] is free kept absent = refl
apart_from_all new e (row ∷ rows) is free kept absent =
    let k = kept_before row rows kept in
    let split = or_parts _ _ free in
    let steps = passed e.0 row rows k.pair k.is absent in
    let numbers : is_eq (value_cmp (rowid new) (rowid row)) ≡ false =
    (eq_by_cmp_equiv value_cmp_total).symm (rowid new) (rowid row) ∙ split.0 in
    let keys : same_key (entry new) (entry row) ≡ false = rw (is, k.is) steps.0 in
    and_from _ _ (and_from _ _ (ap not numbers) (ap not keys))
    (apart_from_all new e rows is split.1 k.others steps.1)

-- to be apart goes both ways
apart_back : (a b : Row) → are_apart a b ≡ true → are_apart b a ≡ true
apart_back a b e =
    let parts = and_parts _ _ e in
    and_from _ _ (ap not ((eq_by_cmp_equiv value_cmp_total).symm (rowid b) (rowid a)) ∙ parts.0)
    (ap not (keys (entry b) (entry a)) ∙ parts.1)
  where
    keys : (x y : Option Entry) → same_key x y ≡ same_key y x
    keys None None = refl
    keys None (Some y) = refl
    keys (Some x) None = refl
    keys (Some x) (Some y) = (eq_by_cmp_equiv keys_total).symm x.0 y.0

-- rows with a new one put among them are kept
pub kept_put : (new : Row) (e : Entry) (rows : List Row) → entry new ≡ Some e
    → is_taken rows new ≡ false → are_kept rows ≡ true → find key_cmp e.0 (entries rows) ≡ None
    → are_kept (put_row new rows) ≡ true
unfolding are_kept
kept_put new e [] is free kept absent = rw is refl
kept_put new e (row ∷ rows) is free kept absent =
    let k = kept_before row rows kept in
    let split = or_parts _ _ free in
    let steps = passed e.0 row rows k.pair k.is absent in
    let far = apart_from_all new e (row ∷ rows) is free kept absent in
    let below = kept_put new e rows is split.1 k.others steps.1 in
    elim (value_cmp (rowid row) (rowid new)) as
    (λ o. is_eq o ≡ false
    → are_kept (match_ordering o (row ∷ put_row new rows) (new ∷ rows) (new ∷ row ∷ rows))
    ≡ true) [
      | Less ↦ λ _. and_from _ _ (ap is_some k.is)
          (and_from _ _ (all_put (are_apart row) new rows (apart_back new row (and_parts _ _ far).0)
          k.apart) below)
      | Equal ↦ λ no. absurd (true≢false no)
      | Greater ↦ λ _. and_from _ _ (ap is_some is) (and_from _ _ far kept)
    ] split.0

-- a row with an entry has a number
pub number_of : (row : Row) (e : Entry) → entry row ≡ Some e → rowid row ≡ Int (id_in (rowid row))
number_of (Int id ∷ row) e is = refl
number_of _ e is = absurd (cc)

-- what holds of all rows holds of the one that a filter leaves
among : (test pass : Row → Bool) (rows : List Row) (row : Row) → list_all test rows ≡ true
    → filter pass rows ≡ row ∷ [] → test row ≡ true
among test pass [] row all is = absurd (cc)
among test pass (first ∷ rows) row all is =
    let parts = and_parts (test first) (list_all test rows) all in
    elim (pass first) as (λ b. cond b (first ∷ filter pass rows) (filter pass rows) ≡ row ∷ []
    → test row ≡ true) [
      | true ↦ λ is. let same : first ≡ row = cc in subst (λ r. test r ≡ true) same parts.0
      | false ↦ λ is. among test pass rows row parts.1 is
    ] is

-- a filter that no row fails leaves all
pub all_stay : (pass : Row → Bool) (rows : List Row) → list_all pass rows ≡ true
    → filter pass rows ≡ rows
all_stay pass [] all = refl
all_stay pass (row ∷ rows) all = let parts = and_parts (pass row) (list_all pass rows) all in
    rw parts.0 (ap (λ rs. row ∷ rs) (all_stay pass rows parts.1))

-- no row passes where a filter leaves none
pub none_passes : (pass : Row → Bool) (rows : List Row) → filter pass rows ≡ []
    → list_all (λ row. not (pass row)) rows ≡ true
none_passes pass [] is = refl
none_passes pass (row ∷ rows) is =
    elim (pass row) as (λ b. cond b (row ∷ filter pass rows) (filter pass rows) ≡ []
    → (not b && list_all (λ row. not (pass row)) rows) ≡ true) [
      | true ↦ λ is. absurd (cc)
      | false ↦ λ is. none_passes pass rows is
    ] is

-- rows that are apart from a row have other numbers
other_numbers : (row : Row) (rows : List Row) (id : ℤ) → rowid row ≡ Int id
    → list_all (are_apart row) rows ≡ true
    → list_all (λ other. not (has_rowid id other)) rows ≡ true
other_numbers row [] id is all = refl
other_numbers row (other ∷ rows) id is all =
    let parts = and_parts (are_apart row other) (list_all (are_apart row) rows) all in
    let number = (and_parts _ _ parts.0).0 in
    let back : has_rowid id other ≡ is_eq (value_cmp (rowid row) (rowid other)) =
    (eq_by_cmp_equiv value_cmp_total).symm (rowid other) (Int id)
    ∙ ap (λ v. is_eq (value_cmp v (rowid other))) (sym is) in
    and_from _ _ (ap not back ∙ number) (other_numbers row rows id is parts.1)

-- all kept rows have entries
pub all_whole : (rows : List Row) → are_kept rows ≡ true
    → list_all (λ row. is_some (entry row)) rows ≡ true
all_whole [] kept = refl
all_whole (row ∷ rows) kept = let k = kept_before row rows kept in
    and_from _ _ (ap is_some k.is) (all_whole rows k.others)

-- to take out the number of the one row of a key is to take out the key
pub without_key : (q : Key) (rows : List Row) (row : Row) → are_kept rows ≡ true
    → filter (has_key q) rows ≡ row ∷ []
    → without_rowid (id_in (rowid row)) rows ≡ filter (λ other. not (has_key q other)) rows
without_key q [] row kept is = absurd (cc)
without_key q (first ∷ rows) row kept is =
    let k = kept_before first rows kept in
    by k (without_key q rows row k.others) (has_key q first) refl
  where
    by : (k : IsKeptBefore first rows)
        → (filter (has_key q) rows ≡ row ∷ []
        → without_rowid (id_in (rowid row)) rows ≡ filter (λ other. not (has_key q other)) rows)
        → (b : Bool) → has_key q first ≡ b
        → without_rowid (id_in (rowid row)) (first ∷ rows)
        ≡ filter (λ other. not (has_key q other)) (first ∷ rows)
    by k below true has =
        let split : first ∷ filter (has_key q) rows ≡ row ∷ [] = rw has at is in
        let same : first ≡ row = cc in
        let empty : filter (has_key q) rows ≡ [] = cc in
        let number = number_of first k.pair k.is in
        let own : has_rowid (id_in (rowid first)) first ≡ true =
        ap (λ v. is_eq (value_cmp (rowid first) v)) (sym number)
        ∙ ap is_eq (tied_itself value_cmp_total (rowid first)) in
        subst (λ r. without_rowid (id_in (rowid r)) (first ∷ rows)
        ≡ filter (λ other. not (has_key q other)) (first ∷ rows)) same
        (rw (own, has) (all_stay _ rows
        (other_numbers first rows (id_in (rowid first)) number k.apart)
        ∙ sym (all_stay _ rows (none_passes (has_key q) rows empty))))
    by k below false has =
        let rest : filter (has_key q) rows ≡ row ∷ [] = rw has at is in
        let far = among (are_apart first) (has_key q) rows row k.apart rest in
        let number = (and_parts _ _ far).0 in
        let there = pair_of rows row k.others rest in
        let other : has_rowid (id_in (rowid row)) first ≡ false =
        ap (λ v. is_eq (value_cmp (rowid first) v)) (sym (number_of row there.0 there.1))
        ∙ not-true _ number in
        rw (other, has) (ap (λ rs. first ∷ rs) (below rest))
      where
        pair_of : (rows : List Row) (row : Row) → are_kept rows ≡ true
            → filter (has_key q) rows ≡ row ∷ [] → (e : Entry) × (entry row ≡ Some e)
        pair_of rows row kept is =
            there (entry row) (among (λ r. is_some (entry r)) (has_key q) rows row
            (all_whole rows kept) is)

-- a test that is made twice
twice : {A : Type 0} (b : Bool) (x y z : A) → cond b x z ≡ cond b x (cond b y z)
twice true x y z = refl
twice false x y z = refl

-- a look-up once the rows of a key are taken out
pub find_without : (key : Key) (rows : List Row) → are_kept rows ≡ true → (q : Key)
    → find key_cmp q (entries (filter (λ other. not (has_key key other)) rows))
    ≡ cond (eq_by_cmp key_cmp q key) None (find key_cmp q (entries rows))
find_without key [] kept q =
    elim (eq_by_cmp key_cmp q key) as (λ b. ◌≡◌ {A = Option (List ℕ)} None (cond b None None))
    [ true ↦ refl | false ↦ refl ]
find_without key (row ∷ rows) kept q =
    let k = kept_before row rows kept in
    by k (find_without key rows k.others q) (has_key key row) refl
  where
    by : (k : IsKeptBefore row rows)
        → find key_cmp q (entries (filter (λ other. not (has_key key other)) rows))
        ≡ cond (eq_by_cmp key_cmp q key) None (find key_cmp q (entries rows))
        → (b : Bool) → has_key key row ≡ b
        → find key_cmp q (entries (filter (λ other. not (has_key key other)) (row ∷ rows)))
        ≡ cond (eq_by_cmp key_cmp q key) None (find key_cmp q (entries (row ∷ rows)))
    by k below true has =
        let tied : eq_by_cmp key_cmp key k.pair.0 ≡ true = rw k.is at has in
        let same : key ≡ k.pair.0 = one_key key k.pair.0 tied in
        rw has (below ∙ twice _ None (Some k.pair.1) (find key_cmp q (entries rows))
        ∙ ap (λ b. cond (eq_by_cmp key_cmp q key) None
        (cond b (Some k.pair.1) (find key_cmp q (entries rows))))
        (ap (eq_by_cmp key_cmp q) same)
        ∙ ap (cond (eq_by_cmp key_cmp q key) None) (sym (find_first q row rows k.pair k.is)))
    by k below false has =
        let apart : eq_by_cmp key_cmp key k.pair.0 ≡ false = rw k.is at has in
        rw has (find_first q row (filter (λ other. not (has_key key other)) rows) k.pair k.is
        ∙ ap (cond (eq_by_cmp key_cmp q k.pair.0) (Some k.pair.1)) below
        ∙ turned _ _ _ _ _ (λ a b. absurd
        (let same = one_key q key b in let no =
        subst (λ x. eq_by_cmp key_cmp x k.pair.0 ≡ true) same a in
        true≢false (sym no ∙ apart)))
        ∙ ap (cond (eq_by_cmp key_cmp q key) None) (sym (find_first q row rows k.pair k.is)))

-- what holds of all rows holds of those that a filter leaves
all_left : (test pass : Row → Bool) (rows : List Row) → list_all test rows ≡ true
    → list_all test (filter pass rows) ≡ true
all_left test pass [] all = refl
all_left test pass (row ∷ rows) all =
    let parts = and_parts (test row) (list_all test rows) all in
    let below = all_left test pass rows parts.1 in
    elim (pass row) as (λ b. list_all test (cond b (row ∷ filter pass rows) (filter pass rows))
    ≡ true) [
      | true ↦ and_from _ _ parts.0 below
      | false ↦ below
    ]

-- rows of which some are left out are kept
pub kept_left : (pass : Row → Bool) (rows : List Row) → are_kept rows ≡ true
    → are_kept (filter pass rows) ≡ true
unfolding are_kept
kept_left pass [] kept = refl
kept_left pass (row ∷ rows) kept =
    let k = kept_before row rows kept in
    let below = kept_left pass rows k.others in
    elim (pass row) as (λ b. are_kept (cond b (row ∷ filter pass rows) (filter pass rows)) ≡ true) [
      | true ↦ and_from _ _ (ap is_some k.is)
          (and_from _ _ (all_left (are_apart row) pass rows k.apart) below)
      | false ↦ below
    ]

-- each row's number is listed
abbrev pub are_listed : List ℤ → List Row → Bool
are_listed ids rows = list_all (λ row. list_any (λ id. has_rowid id row) ids) rows

-- rows without one number are listed by the other numbers
listed_left : (id : ℤ) (ids : List ℤ) (rows : List Row) → are_listed (id ∷ ids) rows ≡ true
    → are_listed ids (without_rowid id rows) ≡ true
listed_left id ids [] all = refl
listed_left id ids (row ∷ rows) all =
    let parts = and_parts (list_any (λ i. has_rowid i row) (id ∷ ids)) (are_listed (id ∷ ids) rows)
    all in
    let below = listed_left id ids rows parts.1 in
    elim (has_rowid id row) as
    (λ b. (b || list_any (λ i. has_rowid i row) ids) ≡ true
    → are_listed ids (cond (not b) (row ∷ without_rowid id rows) (without_rowid id rows))
    ≡ true) [
      | true ↦ λ _. below
      | false ↦ λ one. and_from _ _ one below
    ] parts.0

-- where all numbers are taken out, no row is left
pub none_left : (ids : List ℤ) (rows : List Row) → are_listed ids rows ≡ true
    → without_all rows ids ≡ []
none_left [] [] all = refl
none_left [] (row ∷ rows) all = absurd (cc)
none_left (id ∷ ids) rows all = none_left ids (without_rowid id rows) (listed_left id ids rows all)

-- kept rows are listed by their own numbers
pub own_numbers : (rows : List Row) → are_kept rows ≡ true
    → are_listed (map (λ row. id_in (rowid row)) rows) rows ≡ true
own_numbers [] kept = refl
own_numbers (row ∷ rows) kept =
    let k = kept_before row rows kept in
    let number = number_of row k.pair k.is in
    let own : has_rowid (id_in (rowid row)) row ≡ true =
    ap (λ v. is_eq (value_cmp (rowid row) v)) (sym number)
    ∙ ap is_eq (tied_itself value_cmp_total (rowid row)) in
    and_from _ _ (rw own refl) (more rows (own_numbers rows k.others))
  where
    more : (others : List Row) → are_listed (map (λ r. id_in (rowid r)) rows) others ≡ true
        → are_listed (map (λ r. id_in (rowid r)) (row ∷ rows)) others ≡ true
    more [] all = refl
    more (other ∷ others) all =
        let parts = and_parts (list_any (λ i. has_rowid i other) (map (λ r. id_in (rowid r)) rows))
        (are_listed (map (λ r. id_in (rowid r)) rows) others) all in
        and_from _ _ (or_right (has_rowid (id_in (rowid row)) other) _ parts.0)
        (more others parts.1)
      where
        or_right : (a b : Bool) → b ≡ true → (a || b) ≡ true
        or_right true b e = refl
        or_right false b e = e

-- so they are by the same numbers in another order
pub listed_anyhow : (ids other : List ℤ) (rows : List Row) → IsPermutation ids other
    → are_listed ids rows ≡ true → are_listed other rows ≡ true
listed_anyhow ids other [] same all = refl
listed_anyhow ids other (row ∷ rows) same all =
    let parts = and_parts (list_any (λ i. has_rowid i row) ids) (are_listed ids rows) all in
    and_from _ _ (sym (list_any-IsPermutation (λ i. has_rowid i row) ids other same) ∙ parts.0)
    (listed_anyhow ids other rows same parts.1)
