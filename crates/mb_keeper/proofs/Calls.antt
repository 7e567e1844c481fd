-- What each statement makes of a database that is ours, and of the rows that are told.
use Rattle.std.proofs.Common.{Err, IfErr, codes, cond, false, not, true, IfOk, IsTrue, List, None, Ok, OnOk, Result, Some, [], ap, arith, map, pos, refl, sym, ℕ, ◌≤◌, ◌∙◌, ◌∷◌, ◌≡◌}
use Rattle.std.specs.FinMap.{find, get, get-from_entries, get-insert, get-remove, insert, remove, same_map}
use Rattle.std.specs.List.{filter}
use Rattle.std.specs.Ordering.{eq_by_cmp}
use Rattle.std.specs.Prelude.{String, Vec, string_bytes}
use Rattle.std.specs.declared.alloc.Global.{Global}
use Rattle.mb_outside.specs.Rows.{Key, key_cmp, names_of}
use Rattle.sqlite.specs.declared.error.Error.{Error}
use Rattle.sqlite.specs.declared.types.Value.TheVariants.{Int, Text, Null}
use Rattle.sqlite.specs.Order.{Row, column}
use Rattle.sqlite.specs.Command.TheVariants.{Select}
use Rattle.sqlite.specs.Edit.{is_taken}
use Rattle.sqlite.specs.Tree.{put_row}
use Rattle.sqlite.specs.State.{Executes, State, HasCleanDisk, Shown, FailsToQuery}
use Rattle.sqlite.proofs.Callers.{reads_as}
use Rattle.sqlite_trees.specs.View.{doubt}
use Rattle.mb_keeper.specs.Effects.{Deleted, Inserted, Keeps, Lacks, body_shown, name_shown}
use Rattle.mb_keeper.specs.Known.{IsLevel, IsMade, IsOurs, Knows}
use Rattle.mb_keeper.specs.RecordTable.{no_schema, records_schema}
use Rattle.mb_keeper.specs.RowsInTable.{are_kept, rows_in}
use Rattle.mb_keeper.proofs.Statements.{body_is, body_plain, body_query, body_text, create_text, delete_text, insert_text, names_is, names_plain, names_query, names_text}
use Rattle.mb_keeper.proofs.NamesInOrder.{shows_names}
use Rattle.mb_outside.proofs.KeptRows.{exact_keys, keys_total}
use Rattle.mb_keeper.proofs.TableRows.{entries, find_put, find_without, has_key, kept_left, kept_put}
use Rattle.mb_keeper.proofs.Changes.{added, created_empty, row_params, stored, taken}
use Rattle.mb_keeper.proofs.Outcomes.{executed_open, keeps, keeps_refused, keeps_same, keeps_weaker, refused_query, refused_statement, shown_open, shown_same, tells_back}
use Rattle.mb_keeper.proofs.Queries.{ShowsBody, no_body, one_body, shows_body}

-- the parameters of a look-up
abbrev pub key_params : ℕ → List ℕ → Row
key_params kind name = Int (pos kind) ∷ Text name ∷ []

-- the query of a body
pub bodies_kept : (old new : State) (kind : ℕ) (name : List ℕ) (r : Result (Vec Row Global) Error)
    → doubt old.is_clean ≤ doubt new.is_clean → IsLevel old
    → (HasCleanDisk new → IfOk r
    (λ rows. Shown body_text (key_params kind name) old new rows.items))
    → (HasCleanDisk new → IfErr r (FailsToQuery body_text (key_params kind name) old new))
    → Knows old
    → Keeps old new (λ before after. (after ≡ before)
    × IfOk r (λ rows. rows.items ≡ body_shown (get before (kind, name))))
bodies_kept old new kind name (Err e) falls level ok err knows =
    keeps_refused old new _ falls knows level
    (λ clean. refused_query old new body_text (key_params kind name) e (err clean))
    (λ rows. (refl, tt))
bodies_kept old new kind name (Ok rows) falls level ok err knows =
    keeps_same old new _ falls knows
    (λ clean. shown_open old new body_text (key_params kind name) rows.items (ok clean))
    (λ clean ours.
    let h = ok clean in (
      shown_same old new body_text (key_params kind name) rows.items records_schema ours.0
          body_plain.0 h,
      (refl, found ours (shown ours h)),
    ))
  where
    shown : IsOurs old.now → Shown body_text (key_params kind name) old new rows.items
        → ShowsBody (kind, name) (old.now.trees 0) rows.items
    shown ours h =
        let read = reads_as body_text (key_params kind name) old new records_schema ours.0
        (Select (record { lets = []; body = body_query }) (_)) body_is body_plain.0 body_plain.1
        rows.items h in
        shows_body kind name old.now.trees rows.items ours.1 (read.answer Null)

    found : IsOurs old.now → ShowsBody (kind, name) (old.now.trees 0) rows.items
        → rows.items ≡ body_shown (get (rows_in (old.now.trees 0)) (kind, name))
    found ours (no_body empty absent) = empty
        ∙ ap body_shown (sym (get-from_entries keys_total (entries (old.now.trees 0)) (kind, name)
        ∙ absent))
    found ours (one_body body one there) = one
        ∙ ap body_shown (sym (get-from_entries keys_total (entries (old.now.trees 0)) (kind, name)
        ∙ there))

-- what is told lacks a key that no row has
lacks : (s : State) (key : Key) → HasCleanDisk s → IsTrue s.is_open → Lacks s key
    → find key_cmp key (entries (s.now.trees 0)) ≡ None
lacks s key clean on h =
    let none : get (rows_in (s.now.trees 0)) key ≡ None = rw (tells_back s clean on) at h in
    sym (get-from_entries keys_total (entries (s.now.trees 0)) key) ∙ none

-- a new row is one more row
pub row_inserted : (rows : List Row) (kind : ℕ) (name body : List ℕ) → are_kept rows ≡ true
    → is_taken rows (stored rows kind name body) ≡ false
    → find key_cmp (kind, name) (entries rows) ≡ None
    → rows_in (put_row (stored rows kind name body) rows) ≡ insert (rows_in rows) (kind, name) body
row_inserted rows kind name body kept free absent =
    let new = stored rows kind name body in
    same_map keys_total exact_keys _ _ (λ q.
    get-from_entries keys_total (entries (put_row new rows)) q
    ∙ find_put new ((kind, name), body) rows refl free kept absent q
    ∙ ap (cond (eq_by_cmp key_cmp q (kind, name)) (Some body))
    (sym (get-from_entries keys_total (entries rows) q))
    ∙ sym (get-insert keys_total (rows_in rows) (kind, name) body q))

-- the rows without those of a key
pub row_removed : (rows : List Row) (key : Key) → are_kept rows ≡ true
    → rows_in (filter (λ row. not (has_key key row)) rows) ≡ remove (rows_in rows) key
row_removed rows key kept =
    same_map keys_total exact_keys _ _ (λ q.
    get-from_entries keys_total (entries (filter (λ row. not (has_key key row)) rows)) q
    ∙ find_without key rows kept q
    ∙ ap (cond (eq_by_cmp key_cmp q key) None) (sym (get-from_entries keys_total (entries rows) q))
    ∙ sym (get-remove keys_total (rows_in rows) key q))

-- an insertion
pub insertion_kept : (old new : State) (kind : ℕ) (name body : List ℕ) (r : Result ℕ Error)
    → doubt old.is_clean ≤ doubt new.is_clean → IsLevel old
    → (HasCleanDisk new → Executes insert_text (row_params kind name body) old new r) → Knows old
    → Lacks old (kind, name) → Keeps old new (Inserted (kind, name) body r)
insertion_kept old new kind name body (Err e) falls level run knows lacking =
    keeps_refused old new _ falls knows level
    (λ clean. refused_statement old new insert_text (row_params kind name body) e (run clean))
    (λ rows. (tt, refl))
insertion_kept old new kind name body (Ok count) falls level run knows lacking =
    keeps old new _ falls knows
    (λ clean. executed_open old new insert_text (row_params kind name body) count (run clean))
    (λ clean on was settled ours.
    let it = added old new kind name body count ours.0 (run clean) in
    let before : HasCleanDisk old = omega (arith, clean, falls) in
    let absent = lacks old (kind, name) before was lacking in (
      it.mode ∙ settled,
      (
        it.schema,
        rw it.rows
            (kept_put (stored (old.now.trees 0) kind name body) ((kind, name), body)
            (old.now.trees 0)
            refl it.free ours.1 absent),
      ),
      (
        ap rows_in it.rows ∙ row_inserted (old.now.trees 0) kind name body ours.1 it.free absent,
        tt,
      ),
    ))

-- a deletion
pub deletion_kept : (old new : State) (kind : ℕ) (name : List ℕ) (r : Result ℕ Error)
    → doubt old.is_clean ≤ doubt new.is_clean → IsLevel old
    → (HasCleanDisk new → Executes delete_text (key_params kind name) old new r) → Knows old
    → Keeps old new (Deleted (kind, name) r)
deletion_kept old new kind name (Err e) falls level run knows =
    keeps_refused old new _ falls knows level
    (λ clean. refused_statement old new delete_text (key_params kind name) e (run clean))
    (λ rows. (tt, refl))
deletion_kept old new kind name (Ok count) falls level run knows =
    keeps old new _ falls knows
    (λ clean. executed_open old new delete_text (key_params kind name) count (run clean))
    (λ clean on was settled ours.
    let it = taken old new kind name count ours (run clean) in (
      it.mode ∙ settled,
      (it.schema, rw it.rows_are (kept_left _ (old.now.trees 0) ours.1)),
      (ap rows_in it.rows_are ∙ row_removed (old.now.trees 0) (kind, name) ours.1, tt),
    ))

-- the making of the table where there is nothing
pub creation_known : (old new : State) (r : Result ℕ Error)
    → (HasCleanDisk new → Executes create_text [] old new r) → old.in_transaction ≡ false
    → old.now.schema ≡ no_schema → OnOk r (IsMade new)
creation_known old new (Err e) run settled blank = tt
creation_known old new (Ok count) run settled blank = λ clean on. let it =
    created_empty old new count blank (run clean) in (it.0 ∙ settled, it.1, it.2)

-- the parameters of a listing
abbrev pub kind_params : ℕ → Row
kind_params kind = Int (pos kind) ∷ []

-- the query of names
pub names_kept : (old new : State) (kind : ℕ) (r : Result (Vec Row Global) Error)
    → doubt old.is_clean ≤ doubt new.is_clean → IsLevel old
    → (HasCleanDisk new → IfOk r (λ rows. Shown names_text (kind_params kind) old new rows.items))
    → (HasCleanDisk new → IfErr r (FailsToQuery names_text (kind_params kind) old new)) → Knows old
    → Keeps old new (λ before after. (after ≡ before)
    × IfOk r (λ rows. rows.items ≡ map name_shown (names_of kind before)))
names_kept old new kind (Err e) falls level ok err knows =
    keeps_refused old new _ falls knows level
    (λ clean. refused_query old new names_text (kind_params kind) e (err clean))
    (λ rows. (refl, tt))
names_kept old new kind (Ok rows) falls level ok err knows =
    keeps_same old new _ falls knows
    (λ clean. shown_open old new names_text (kind_params kind) rows.items (ok clean))
    (λ clean ours.
    let h = ok clean in
    let read = reads_as names_text (kind_params kind) old new records_schema ours.0
    (Select (record { lets = []; body = names_query }) (codes "name" ∷ [])) names_is
    names_plain.0 names_plain.1 rows.items h in (
      shown_same old new names_text (kind_params kind) rows.items records_schema ours.0
          names_plain.0
          h,
      (refl, shows_names kind old.now.trees rows.items ours.1 (read.answer Null)),
    ))

-- texts that are those of names shown are the names
pub texts_same : (texts : List (String Global)) (rows : List Row) (names : List (List ℕ))
    → map (λ text. Text (string_bytes text)) texts ≡ map (λ row. column row 0) rows
    → rows ≡ map name_shown names → map string_bytes texts ≡ names
texts_same texts rows names read shown =
    same texts names (read ∙ ap (map (λ row. column row 0)) shown ∙ firsts names)
  where
    firsts : (names : List (List ℕ))
        → map (λ row. column row 0) (map name_shown names) ≡ map Text names
    firsts [] = refl
    firsts (name ∷ names) = ap (λ vs. Text name ∷ vs) (firsts names)

    same : (texts : List (String Global)) (names : List (List ℕ))
        → map (λ text. Text (string_bytes text)) texts ≡ map Text names
        → map string_bytes texts ≡ names
    same [] [] e = refl
    same [] (name ∷ names) e = absurd (cc)
    same (text ∷ texts) [] e = absurd (cc)
    same (text ∷ texts) (name ∷ names) e =
        let first : string_bytes text ≡ name = cc in
        let rest : map (λ text. Text (string_bytes text)) texts ≡ map Text names = cc in
        λ i. first i ∷ same texts names rest i

-- the names that are read of what is shown
pub names_read : (old new : State) (kind : ℕ) (rows : List Row)
    (r : Result (Vec (String Global) Global) Error)
    → Keeps old new (λ before after. (after ≡ before)
    × (rows ≡ map name_shown (names_of kind before)))
    → IfOk r (λ names. map (λ text. Text (string_bytes text)) names.items
    ≡ map (λ row. column row 0) rows)
    → Keeps old new (λ before after. (after ≡ before)
    × IfOk r (λ names. map string_bytes names.items ≡ names_of kind before))
names_read old new kind rows (Err e) kept read = keeps_weaker old new _ _ (λ x y f. (f.0, tt)) kept
names_read old new kind rows (Ok names) kept read =
    keeps_weaker old new _ _
    (λ x y f. (f.0, texts_same names.items rows (names_of kind x) read f.1)) kept
