-- Statements within a transaction, and how it ends.
use Rattle.std.proofs.Common.{Bool, IsErr, cond, is_some, length, map, slice_get, slice_index_or, suc, take, zero, Err, IfErr, IsTrue, List, None, Ok, OnOk, Option, Result, Some, [], ap, arith, false, inl, inr, refl, subst, sym, true, true≢false, ℕ, ◌+◌, ◌++◌, ◌<◌, ◌≤◌, ◌∙◌, ◌∷◌, ◌≡◌}
use Rattle.std.proofs.lemmas.Bool.{cases_Bool}
use Rattle.std.specs.FinMap.{contains_key, empty, find, from_entries, get, get-from_entries, from_entries_push, insert, len, len-empty, len-insert}
use Rattle.std.proofs.lemmas.Cmp.{eq_by_cmp_equiv}
use Rattle.std.specs.Ordering.{eq_by_cmp}
use Rattle.mb_outside.specs.Rows.{AreApart, Key, Rows, entry_of, key_cmp, rows_of}
use Rattle.mb_outside.specs.declared.keeper.Row.{Row as Listed}
use Rattle.sqlite.specs.declared.error.Error.{Error}
use Rattle.sqlite.specs.Effect.{Database}
use Rattle.sqlite.specs.State.{ExecutesInside, HasCleanDisk, IsRolledBack, KeepsCounts, Shows, State}
use Rattle.sqlite.specs.Steps.{FailsToCommit}
use Rattle.sqlite.proofs.InsideLemmas.{keeps_then}
use Rattle.sqlite_trees.specs.View.{doubt}
use Rattle.mb_keeper.specs.Effects.{IsWithin, Keeps, Replaced}
use Rattle.mb_keeper.specs.Known.{Holds, IsLevel, IsOurs, Knows}
use Rattle.mb_keeper.specs.RowsInTable.{rows_in}
use Rattle.mb_keeper.proofs.Statements.{clear_text, insert_text}
use Rattle.mb_outside.proofs.KeptRows.{exact_keys, keys_total}
use Rattle.mb_keeper.proofs.TableRows.{Entry, entries, kept_put}
use Rattle.mb_keeper.proofs.Changes.{added, cleared, none_kept, row_params, stored}
use Rattle.mb_keeper.proofs.Calls.{row_inserted}
use Rattle.mb_keeper.proofs.Outcomes.{keeps}

-- and of two steps, one after the other
pub within_then : (a b c : State) → IsWithin a b → IsWithin b c → IsWithin a c
within_then a b c one two = record {
  falls = omega (arith, one.falls, two.falls);
  kept = λ clean. keeps_then a b c (one.kept (omega (arith, clean, two.falls))) (two.kept clean);
}

-- a deletion of all rows
pub cleared_within : (old new : State) (r : Result ℕ Error) (late : Error)
    → doubt old.is_clean ≤ doubt new.is_clean → (old.in_transaction ≡ false → r ≡ Err late)
    → (HasCleanDisk new → IsTrue old.in_transaction → ExecutesInside 0 clear_text [] old new r)
    → OnOk r ((before : Rows) → Holds old before → Holds new empty)
cleared_within old new (Err e) late falls ended runs = tt
cleared_within old new (Ok count) late falls ended runs = λ before holds clean on.
    let was : HasCleanDisk old = omega (arith, clean, falls) in
    elim (cases_Bool old.in_transaction) [
      | inl inside ↦
          let h = runs clean inside in
          let k = holds was h.1.was_open in
          let it = cleared old new count k.1 h.0 in
          (h.1.mode, (it.schema, rw it.rows_are none_kept), ap rows_in it.rows_are)
      | inr off ↦ absurd (let e = ended off in cc)
    ]

-- an insertion
pub inserted_within : (old new : State) (kind : ℕ) (name body : List ℕ) (r : Result ℕ Error)
    (late : Error)
    → doubt old.is_clean ≤ doubt new.is_clean → (old.in_transaction ≡ false → r ≡ Err late)
    → (HasCleanDisk new → IsTrue old.in_transaction
    → ExecutesInside 0 insert_text (row_params kind name body) old new r)
    → OnOk r ((before : Rows) → get before (kind, name) ≡ None → Holds old before
    → Holds new (insert before (kind, name) body))
inserted_within old new kind name body (Err e) late falls ended runs = tt
inserted_within old new kind name body (Ok count) late falls ended runs =
    λ before lacking holds clean on.
    let was : HasCleanDisk old = omega (arith, clean, falls) in
    elim (cases_Bool old.in_transaction) [
      | inl inside ↦
          let h = runs clean inside in
          let k = holds was h.1.was_open in
          let it = added old new kind name body count k.1.0 h.0 in
          let absent : find key_cmp (kind, name) (entries (old.now.trees 0)) ≡ None =
          sym (get-from_entries keys_total (entries (old.now.trees 0)) (kind, name))
          ∙ ap (λ (m : Rows). get m (kind, name)) k.2 ∙ lacking in (
            h.1.mode,
            (
              it.schema,
              rw it.rows
                  (kept_put (stored (old.now.trees 0) kind name body) ((kind, name), body)
                  (old.now.trees 0) refl it.free k.1.1 absent),
            ),
            ap rows_in it.rows ∙ row_inserted (old.now.trees 0) kind name body k.1.1 it.free absent
                ∙ ap (λ (m : Rows). insert m (kind, name) body) k.2,
          )
      | inr off ↦ absurd (let e = ended off in cc)
    ]

-- the map of entries
abbrev pub made : List Entry → Rows
made es = from_entries es

-- the map of a list has at most as many rows
len_within : (es : List Entry) → len (made es) ≤ length es
len_within [] = omega (arith, len-empty key_cmp (List ℕ))
len_within (e ∷ es) =
    let below = len_within es in
    let is = len-insert keys_total (made es) e.0 e.1 in
    by (contains_key (made es) e.0) is below
  where
    by : (b : Bool) → len (insert (made es) e.0 e.1) ≡ cond b (len (made es)) (len (made es) + 1)
        → len (made es) ≤ length es → len (insert (made es) e.0 e.1) ≤ suc (length es)
    by true is below = omega (arith, is, below)
    by false is below = omega (arith, is, below)

-- where it has as many, the first key doesn't come again
apart_first : (e : Entry) (es : List Entry) → len (made (e ∷ es)) ≡ length (e ∷ es)
    → (find key_cmp e.0 es ≡ None) × (len (made es) ≡ length es)
apart_first e es apart = by (find key_cmp e.0 es) refl
  where
    by : (o : Option (List ℕ)) → find key_cmp e.0 es ≡ o
        → (find key_cmp e.0 es ≡ None) × (len (made es) ≡ length es)
    by None is =
        let m = made es in
        let lacks : contains_key m e.0 ≡ false =
        ap is_some (get-from_entries keys_total es e.0 ∙ is) in
        let more : len (insert m e.0 e.1) ≡ len m + 1 = len-insert keys_total m e.0 e.1
        ∙ ap (λ b. cond b (len m) (len m + 1)) lacks in
        (is, omega (arith, more, apart))
    by (Some x) is =
        let m = made es in
        let has : contains_key m e.0 ≡ true =
        ap is_some (get-from_entries keys_total es e.0 ∙ is) in
        let same : len (insert m e.0 e.1) ≡ len m = len-insert keys_total m e.0 e.1
        ∙ ap (λ b. cond b (len m) (len m + 1)) has in
        absurd (omega (arith, same, apart, len_within es))

-- a key that is not found is not that of an entry
not_found : (q : Key) (es : List Entry) (i : ℕ) (e : Entry) → find key_cmp q es ≡ None
    → slice_get es i ≡ Some e → eq_by_cmp key_cmp q e.0 ≡ false
not_found q [] i e none is = absurd (cc)
not_found q (x ∷ es) i e none is = by (λ j. not_found q es j e) (eq_by_cmp key_cmp q x.0) refl i is
  where
    by : ((j : ℕ) → find key_cmp q es ≡ None → slice_get es j ≡ Some e
        → eq_by_cmp key_cmp q e.0 ≡ false)
        → (b : Bool) → eq_by_cmp key_cmp q x.0 ≡ b → (i : ℕ) → slice_get (x ∷ es) i ≡ Some e
        → eq_by_cmp key_cmp q e.0 ≡ false
    by below true tied i is =
        absurd (let found = sym (ap (λ b. cond b (Some x.1) (find key_cmp q es)) tied) ∙ none in cc)
    by below false apart zero is = let same : x ≡ e = cc in
        subst (λ (y : Entry). eq_by_cmp key_cmp q y.0 ≡ false) same apart
    by below false apart (suc i) is =
        below i (sym (ap (λ b. cond b (Some x.1) (find key_cmp q es)) apart) ∙ none) is

-- the key of an entry is not among those before it
pub before_apart : (es : List Entry) (i : ℕ) (e : Entry) → len (made es) ≡ length es
    → slice_get es i ≡ Some e → find key_cmp e.0 (take i es) ≡ None
before_apart [] i e apart is = absurd (cc)
before_apart (x ∷ es) zero e apart is = refl
before_apart (x ∷ es) (suc i) e apart is =
    let first = apart_first x es apart in
    let tied : eq_by_cmp key_cmp e.0 x.0 ≡ false = (eq_by_cmp_equiv keys_total).symm e.0 x.0
    ∙ not_found x.0 es i e first.0 is in
    ap (λ b. cond b (Some x.1) (find key_cmp e.0 (take i es))) tied ∙ before_apart es i e first.1 is

-- the row at a place
pub at_place : (all : List Listed) (i : ℕ) (row d : Listed) → i < length all
    → row ≡ slice_index_or all i d → slice_get all i ≡ Some row
at_place [] i row d low is = absurd (omega arith)
at_place (x ∷ all) zero row d low is = ap Some (sym is)
at_place (x ∷ all) (suc i) row d low is = at_place all i row d (omega arith) is

-- the entry of a row of a list
listed_at : (all : List Listed) (i : ℕ) (row : Listed) → slice_get all i ≡ Some row
    → slice_get (map entry_of all) i ≡ Some (entry_of row)
listed_at [] i row is = absurd (cc)
listed_at (x ∷ all) zero row is = let same : x ≡ row = cc in
    ap (λ (r : Listed). Some (entry_of r)) same
listed_at (x ∷ all) (suc i) row is = listed_at all i row is

-- the entries of the first rows
first_entries : (all : List Listed) (i : ℕ) → map entry_of (take i all) ≡ take i (map entry_of all)
first_entries all zero = refl
first_entries [] (suc i) = refl
first_entries (x ∷ all) (suc i) = ap (λ es. entry_of x ∷ es) (first_entries all i)

-- one more of the first
more_first : (es : List Entry) (i : ℕ) (e : Entry) → slice_get es i ≡ Some e
    → take (suc i) es ≡ take i es ++ e ∷ []
more_first [] i e is = absurd (cc)
more_first (x ∷ es) zero e is = let same : x ≡ e = cc in ap (λ y. y ∷ []) same
more_first (x ∷ es) (suc i) e is = ap (λ ys. x ∷ ys) (more_first es i e is)

-- as many entries as rows
as_many : (all : List Listed) → length (map entry_of all) ≡ length all
as_many [] = refl
as_many (row ∷ all) = ap suc (as_many all)

-- the key of the next row of a list isn't among those before it
pub next_lacks : (all : List Listed) (i : ℕ) (row : Listed) → AreApart all
    → slice_get all i ≡ Some row → get (rows_of (take i all)) (entry_of row).0 ≡ None
next_lacks all i row apart is =
    get-from_entries keys_total (map entry_of (take i all)) (entry_of row).0
    ∙ ap (find key_cmp (entry_of row).0) (first_entries all i)
    ∙ before_apart (map entry_of all) i (entry_of row) (apart ∙ sym (as_many all))
    (listed_at all i row is)

-- with it the first rows are one more
pub next_rows : (all : List Listed) (i : ℕ) (row : Listed) → AreApart all
    → slice_get all i ≡ Some row
    → insert (rows_of (take i all)) (entry_of row).0 (entry_of row).1 ≡ rows_of (take (i + 1) all)
next_rows all i row apart is =
    let es = map entry_of (take i all) in
    let next : i + 1 ≡ suc i = omega arith in
    let none = sym (get-from_entries keys_total es (entry_of row).0)
    ∙ next_lacks all i row apart is in
    sym (from_entries_push keys_total exact_keys es (entry_of row).0 (entry_of row).1 none)
    ∙ ap made (ap (λ xs. xs ++ entry_of row ∷ []) (first_entries all i)
    ∙ sym (more_first (map entry_of all) i (entry_of row) (listed_at all i row is))
    ∙ sym (first_entries all (suc i)))
    ∙ ap (λ k. rows_of (take k all)) (sym next)

-- what began a transaction commits nothing
pub begun_within : (old : State) → IsWithin old (record old { in_transaction = true })
begun_within old = record
    { falls = omega arith; kept = λ _. record { was_open = λ h. h; committed = λ _. refl } }

-- a transaction that is undone leaves what is told
pub keeps_undone : (old mid new : State) (all : List Listed) (r : Result (Unit {0}) Error)
    → IsLevel old → old.in_transaction ≡ false → IsWithin old mid
    → doubt mid.is_clean ≤ doubt new.is_clean → (HasCleanDisk new → IsRolledBack mid new) → IsErr r
    → Knows old → Keeps old new (Replaced all r)
keeps_undone old mid new all (Ok x) level settled within falls undone failed knows = absurd (cc)
keeps_undone old mid new all (Err e) level settled within falls undone failed knows =
    keeps old new _ (omega (arith, falls, within.falls)) knows
    (λ clean on. (within.kept (omega (arith, clean, falls))).was_open ((undone clean).was_open on))
    (λ clean on was quiet ours.
    let back = undone clean in
    let kept = within.kept (omega (arith, clean, falls)) in
    let mid_open = back.was_open on in
    let same : new.now ≡ old.now = (back.undone on).0 ∙ kept.committed mid_open
    ∙ sym (level settled was) in (
      back.autocommit,
      subst IsOurs (sym same) ours,
      (tt, ap (λ (db : Database). rows_in (db.trees 0)) same),
    ))

-- a transaction that is committed leaves its rows, and a refused commit what is told
pub keeps_committed : (old mid new : State) (all : List Listed) (r : Result (Unit {0}) Error)
    → IsLevel old → old.in_transaction ≡ false → IsWithin old mid
    → doubt mid.is_clean ≤ doubt new.is_clean
    → (HasCleanDisk new → OnOk r
    (IsTrue mid.in_transaction × Shows mid new mid.now mid.now false × KeepsCounts mid new
    × (new.marks ≡ [])))
    → (HasCleanDisk new → IfErr r (FailsToCommit mid new)) → (Knows old → Holds mid (rows_of all))
    → Knows old → Keeps old new (Replaced all r)
keeps_committed old mid new all (Ok x) level settled within falls ok err holds knows =
    keeps old new _ (omega (arith, falls, within.falls)) knows
    (λ clean on. (within.kept (omega (arith, clean, falls))).was_open (ok clean).1.was_open)
    (λ clean on was quiet ours.
    let shown = (ok clean).1 in
    let k = holds knows (omega (arith, clean, falls)) shown.was_open in (
      shown.mode,
      subst IsOurs (sym shown.now_is) k.1,
      (ap (λ (db : Database). rows_in (db.trees 0)) shown.now_is ∙ k.2, tt),
    ))
keeps_committed old mid new all (Err e) level settled within falls ok err holds knows =
    keeps old new _ (omega (arith, falls, within.falls)) knows
    (λ clean on. (within.kept (omega (arith, clean, falls))).was_open
    (mid_open clean on (err clean)))
    (λ clean on was quiet ours. by clean on was ours (err clean))
  where
    mid_open : HasCleanDisk new → IsTrue new.is_open → FailsToCommit mid new e → IsTrue mid.is_open
    mid_open clean on (inl failed) = failed.3.was_open on
    mid_open clean on (inr late) = late.2.0.was_open

    by : HasCleanDisk new → IsTrue new.is_open → IsTrue old.is_open → IsOurs old.now
        → FailsToCommit mid new e
        → (new.in_transaction ≡ false) × IsOurs new.now
        × Replaced all (Err e) (rows_in (old.now.trees 0)) (rows_in (new.now.trees 0))
    by clean on was ours (inl failed) =
        let back = failed.3 in
        let kept = within.kept (omega (arith, clean, falls)) in
        let same : new.now ≡ old.now = (back.undone on).0 ∙ kept.committed (back.was_open on)
        ∙ sym (level settled was) in (
          back.autocommit,
          subst IsOurs (sym same) ours,
          (tt, ap (λ (db : Database). rows_in (db.trees 0)) same),
        )
    by clean on was ours (inr late) =
        let k = holds knows (omega (arith, clean, falls)) late.2.0.was_open in
        absurd (true≢false (sym k.0 ∙ late.1))

-- what began a transaction has the rows that are told
pub begun_holds : (old : State) → Knows old
    → Holds (record old { in_transaction = true }) (rows_in (old.now.trees 0))
begun_holds old knows clean on = (refl, (knows clean on).1, refl)
