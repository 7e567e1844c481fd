-- What the changing statements make of the table.
use Rattle.std.proofs.Common.{Bool, Err, List, None, Ok, Result, [], ap, cond, false, inl, inr, map, not, pos, refl, subst, sym, true, ℕ, ℤ, ◌&&◌, ◌∙◌, ◌∷◌, ◌≡◌, ◌⊎◌}
use Rattle.std.proofs.lemmas.Bool.{and_parts, not-true}
use Rattle.std.specs.List.{filter, list_all}
use Rattle.std.specs.List.Sorted.{IsPermutation}
use Rattle.std.proofs.lemmas.List.Sorted.{IsPermutation-map}
use Rattle.sqlite.specs.declared.types.Value.{Value}
use Rattle.sqlite.specs.declared.types.Value.TheVariants.{Blob, Int, Null, Text}
use Rattle.sqlite.specs.Order.{Row}
use Rattle.sqlite.specs.Ops.{unary}
use Rattle.sqlite.specs.Term.{col}
use Rattle.sqlite.specs.Query.{IsAnswer, Output, output}
use Rattle.sqlite.specs.Program.{overlay}
use Rattle.sqlite.specs.Kind.TheVariants.{Integer}
use Rattle.sqlite.specs.Source.TheVariants.{Values}
use Rattle.sqlite.specs.Command.TheVariants.{CreateTable, Delete, Insert}
use Rattle.sqlite.specs.Edit.{edit_of, id_in, is_taken, next_rowid, without_all}
use Rattle.sqlite.specs.Cast.{cast}
use Rattle.sqlite.specs.Rowids.TheVariants.{Chosen, Given}
use Rattle.sqlite.specs.Change.{created, next_tree}
use Rattle.sqlite.specs.Does.{Does, Tally, lacks_sequence}
use Rattle.sqlite.specs.Rows.{Written}
use Rattle.sqlite.specs.Tree.{Trees, put_row, rowid}
use Rattle.sqlite.specs.Effect.{Database}
use Rattle.sqlite.specs.State.{Executes, State, Writes, mode_of}
use Rattle.sqlite.specs.Listing.{understood}
use Rattle.sqlite_rules.specs.Calls.{ids_of}
use Rattle.sqlite.proofs.Callers.{one_permutation, one_step, runs_as, statement_of}
use Rattle.mb_keeper.specs.Known.{IsOurs}
use Rattle.mb_keeper.specs.RecordTable.{no_schema, records, records_schema}
use Rattle.mb_keeper.specs.RowsInTable.{are_kept}
use Rattle.mb_keeper.proofs.Statements.{create_first, create_first_plain, create_text, created_is, clear_is, clear_plain, clear_query, clear_text, delete_is, delete_plain, delete_query, delete_text, insert_is, insert_plain, insert_terms, insert_text, of_kind, of_name}
use Rattle.mb_keeper.proofs.TableRows.{all_stay, are_listed, has_key, listed_anyhow, no_row, none_left, none_passes, one_row, own_numbers, picked, without_key}
use Rattle.mb_keeper.proofs.Queries.{answered, key_passes, no_permutation}

-- a part that gave a value did not stop on the way
pub went : {B E R : Type 0} {b : B} {Stops : E → Type 0}
    → ((stop : E) × Stops stop × (Ok b ≡ Err stop)) ⊎ R → R
went (inl stopped) = absurd (let e = stopped.2 in cc)
went (inr on) = on

-- equal answers have equal values
same_value : {B E : Type 0} {a b : B} → ◌≡◌ {A = Result B E} (Ok a) (Ok b) → a ≡ b
same_value e = cc

-- both ways to the same value
either : (b : Bool) (x : Value) → cond b x x ≡ x
either true x = refl
either false x = refl

-- a column of integers leaves an integer and a NULL
cast_null : cast Integer Null ≡ Null
unfolding unary
cast_null = either _ Null

-- an integer stays itself in a column of integers
cast_int : (n : ℤ) → cast Integer (Int n) ≡ Int n
unfolding unary
cast_int n = either _ (Int n)

-- a row as it is stored
abbrev pub stored : List Row → ℕ → List ℕ → List ℕ → Row
stored rows kind name body = Int (next_rowid rows) ∷ Int (pos kind) ∷ Text name ∷ Blob body ∷ []

-- the parameters of an insertion
abbrev pub row_params : ℕ → List ℕ → List ℕ → Row
row_params kind name body = Int (pos kind) ∷ Text name ∷ Blob body ∷ []

-- a database to which a row was added
pub record IsAdded (old new : State) (row : Row) : Type 0 where
  pub mode : new.in_transaction ≡ old.in_transaction
  pub schema : new.now.schema ≡ records_schema
  pub rows : new.now.trees 0 ≡ put_row row (old.now.trees 0)
  pub free : is_taken (old.now.trees 0) row ≡ false

-- what an insertion that is answered made
pub added : (old new : State) (kind : ℕ) (name body : List ℕ) (count : ℕ)
    → old.now.schema ≡ records_schema
    → Executes insert_text (row_params kind name body) old new (Ok count)
    → IsAdded old new (stored (old.now.trees 0) kind name body)
added old new kind name body count has h =
    let params = row_params kind name body in
    let db = old.now.trees in
    let command = Insert 0 (Values insert_terms 4) in
    let w = runs_as insert_text params old new records_schema has command insert_is insert_plain
    count h in
    let text = statement_of insert_text (understood records_schema insert_text) in
    let done = went (subst
    (λ s. Does old.step_limit (mode_of old) params (record old.now { schema = s }) text None
    command (Ok (w.tally, new.now))) has w.changed) in
    let now = ap (λ (p : Tally × Database). p.1) (same_value (went (went done.2).2).2) in
    let given = went done.1 in
    let written = went (went given.2).2 in
    let counted = went written.2 in
    let trees : done.0.trees ≡ written.0 = ap (λ (it : Written). it.trees) (same_value counted.2)
    ∙ same_value counted.1 in
    let step = one_step records_schema _ db written.0 (edit_of db records [] Chosen 0 given.0) refl
    written.1 in
    let news : (edit_of db records [] Chosen 0 given.0).news ≡ stored (db 0) kind name body ∷ [] =
    ap (λ all. (edit_of db records [] Chosen 0 all).news) given.1.1
    ∙ rw (cast_null, cast_int (pos kind)) refl in
    let fresh : (not (is_taken (db 0) (stored (db 0) kind name body)) && true) ≡ true =
    rw news at step.fresh in
    record {
      mode = w.shown.mode;
      schema = ap (λ (d : Database). d.schema) now;
      rows = ap (λ (d : Database). d.trees 0) now ∙ ap (λ (t : Trees). t 0) trees ∙ step.rows
          ∙ rw news refl;
      free = not-true _ (and_parts (not (is_taken (db 0) (stored (db 0) kind name body))) true
          fresh).0;
    }

-- a database of which these rows were left
pub record IsLeft (old new : State) (rows : List Row) : Type 0 where
  pub mode : new.in_transaction ≡ old.in_transaction
  pub schema : new.now.schema ≡ records_schema
  pub rows_are : new.now.trees 0 ≡ rows

-- the rows of a key are taken out
pub taken : (old new : State) (kind : ℕ) (name : List ℕ) (count : ℕ) → IsOurs old.now
    → Executes delete_text (Int (pos kind) ∷ Text name ∷ []) old new (Ok count)
    → IsLeft old new (filter (λ row. not (has_key (kind, name) row)) (old.now.trees 0))
taken old new kind name count ours h =
    let params = Int (pos kind) ∷ Text name ∷ [] in
    let db = old.now.trees in
    let command = Delete 0 (record { lets = []; body = delete_query }) in
    let w = runs_as delete_text params old new records_schema ours.0 command delete_is delete_plain
    count h in
    let text = statement_of delete_text (understood records_schema delete_text) in
    let done = went (subst
    (λ s. Does old.step_limit (mode_of old) params (record old.now { schema = s }) text None
    command (Ok (w.tally, new.now))) ours.0 w.changed) in
    let now = ap (λ (p : Tally × Database). p.1) (same_value (went (went done.2).2).2) in
    let found = went done.1 in
    let written = went found.2 in
    let trees : done.0.trees ≡ written.0 = ap (λ (it : Written). it.trees) (same_value written.2) in
    let step = one_step records_schema _ db written.0
    (edit_of db records (ids_of found.0) Given 0 []) refl written.1 in
    record {
      mode = w.shown.mode;
      schema = ap (λ (d : Database). d.schema) now;
      rows_are = ap (λ (d : Database). d.trees 0) now ∙ ap (λ (t : Trees). t 0) trees ∙ step.rows
          ∙ left db found.0 ours.1 (found.1.answer Null);
    }
  where
    left : (db : Trees) (shown : List Row) → are_kept (db 0) ≡ true
        → IsAnswer delete_query (overlay db []) (Int (pos kind) ∷ Text name ∷ []) shown
        → without_all (db 0) (ids_of shown) ≡ filter (λ row. not (has_key (kind, name) row)) (db 0)
    left db shown kept a =
        let params = Int (pos kind) ∷ Text name ∷ [] in
        let all = answered (of_kind ∷ of_name ∷ []) (col 1 0 ∷ []) [] params (has_key (kind, name))
        db shown kept (key_passes kind name) a in
        let show = λ (row : Row). output delete_query (params ∷ row ∷ []) in
        elim (picked (kind, name) (db 0) kept) [
          | no_row empty absent ↦
              let none = no_permutation all.ordered
              (subst (λ rows. IsPermutation (map show rows) all.ordered) empty all.same) in
              let ids : ids_of shown ≡ [] =
              ap ids_of (all.is ∙ ap (map (λ (o : Output). o.1)) none) in
              ap (without_all (db 0)) ids
              ∙ sym (all_stay _ (db 0) (none_passes (has_key (kind, name)) (db 0) empty))
          | one_row row e one is same there ↦
              let only = one_permutation (show row) all.ordered
              (subst (λ rows. IsPermutation (map show rows) all.ordered) one all.same) in
              let ids : ids_of shown ≡ id_in (rowid row) ∷ [] =
              ap ids_of (all.is ∙ ap (map (λ (o : Output). o.1)) only) in
              ap (without_all (db 0)) ids ∙ without_key (kind, name) (db 0) row kept one
        ]

-- all rows are taken out
pub cleared : (old new : State) (count : ℕ) → IsOurs old.now
    → Executes clear_text [] old new (Ok count) → IsLeft old new []
cleared old new count ours h =
    let db = old.now.trees in
    let command = Delete 0 (record { lets = []; body = clear_query }) in
    let w = runs_as clear_text [] old new records_schema ours.0 command clear_is clear_plain count
    h in
    let text = statement_of clear_text (understood records_schema clear_text) in
    let done = went (subst
    (λ s. Does old.step_limit (mode_of old) [] (record old.now { schema = s }) text None command
    (Ok (w.tally, new.now))) ours.0 w.changed) in
    let now = ap (λ (p : Tally × Database). p.1) (same_value (went (went done.2).2).2) in
    let found = went done.1 in
    let written = went found.2 in
    let trees : done.0.trees ≡ written.0 = ap (λ (it : Written). it.trees) (same_value written.2) in
    let step = one_step records_schema _ db written.0
    (edit_of db records (ids_of found.0) Given 0 []) refl written.1 in
    record {
      mode = w.shown.mode;
      schema = ap (λ (d : Database). d.schema) now;
      rows_are = ap (λ (d : Database). d.trees 0) now ∙ ap (λ (t : Trees). t 0) trees ∙ step.rows
          ∙ left db found.0 ours.1 (found.1.answer Null);
    }
  where
    left : (db : Trees) (shown : List Row) → are_kept (db 0) ≡ true
        → IsAnswer clear_query (overlay db []) [] shown → without_all (db 0) (ids_of shown) ≡ []
    left db shown kept a =
        let all = answered [] (col 1 0 ∷ []) [] [] (λ (_ : Row). true) db shown kept
        (λ row e is. refl) a in
        let show = λ (row : Row). output clear_query ([] ∷ row ∷ []) in
        let number = λ (o : Output). id_in (rowid o.1) in
        let every : filter (λ (_ : Row). true) (db 0) ≡ db 0 =
        all_stay (λ (_ : Row). true) (db 0) (each (db 0)) in
        let ids : ids_of shown ≡ map number all.ordered = ap ids_of all.is ∙ again all.ordered in
        let numbers : map number (map show (db 0)) ≡ map (λ (row : Row). id_in (rowid row)) (db 0) =
        same (db 0) in
        let moved = IsPermutation-map number (map show (db 0)) all.ordered
        (subst (λ rows. IsPermutation (map show rows) all.ordered) every all.same) in
        none_left (ids_of shown) (db 0)
        (subst (λ ids. are_listed ids (db 0) ≡ true) (sym ids)
        (listed_anyhow (map number (map show (db 0))) (map number all.ordered) (db 0) moved
        (subst (λ ids. are_listed ids (db 0) ≡ true) (sym numbers)
        (own_numbers (db 0) kept))))
      where
        each : (rows : List Row) → list_all (λ (_ : Row). true) rows ≡ true
        each [] = refl
        each (row ∷ rows) = each rows

        again : (os : List Output)
            → ids_of (map (λ (o : Output). o.1) os) ≡ map (λ (o : Output). id_in (rowid o.1)) os
        again [] = refl
        again (o ∷ os) = ap (λ ids. id_in (rowid o.1) ∷ ids) (again os)

        same : (rows : List Row)
            → map (λ (o : Output). id_in (rowid o.1))
            (map (λ (row : Row). output clear_query ([] ∷ row ∷ [])) rows)
            ≡ map (λ (row : Row). id_in (rowid row)) rows
        same [] = refl
        same (row ∷ rows) = ap (λ ids. id_in (rowid row) ∷ ids) (same rows)

-- no row is kept
pub none_kept : are_kept [] ≡ true
unfolding are_kept
none_kept = refl

-- the table is made where there is nothing
pub created_empty : (old new : State) (count : ℕ) → old.now.schema ≡ no_schema
    → Executes create_text [] old new (Ok count)
    → (new.in_transaction ≡ old.in_transaction) × IsOurs new.now × (new.now.trees 0 ≡ [])
created_empty old new count has h =
    let w = subst (λ t. Writes old new None CreateTable t [] count) create_first.1
    (runs_as create_text [] old new no_schema has CreateTable create_first.0 create_first_plain
    count h) in
    let all = went w.changed in
    let first = went all.1 in
    let made = first.1 in
    let both : Ok made.table ≡ Ok records = sym made.defined ∙ create_first.2 in
    let same : made.table ≡ records = cc in
    let schema : first.0.schema ≡ records_schema = made.is ∙ ap (λ s. created s made.table) has
    ∙ ap (created no_schema) same ∙ created_is in
    let plain : lacks_sequence first.0.schema ≡ false = ap lacks_sequence schema in
    let now : new.now ≡ first.0 = ap (λ (p : Tally × Database). p.1) (same_value all.2)
    ∙ same_value (rw plain at first.2) in
    let empty : new.now.trees 0 ≡ [] = ap (λ (d : Database). d.trees 0) now
    ∙ subst (λ s. first.0.trees (next_tree s) ≡ []) has made.empty in
    (w.shown.mode, (ap (λ (d : Database). d.schema) now ∙ schema, rw empty none_kept), empty)
