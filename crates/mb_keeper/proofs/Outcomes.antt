-- What a statement leaves of a connection, whatever it answers.
use Rattle.std.proofs.Common.{Bool, Err, IsTrue, List, None, Ok, Option, Some, ap, arith, false, inl, inr, refl, subst, sym, true, ℕ, ◌&&◌, ◌≤◌, ◌∙◌, ◌≡◌, ◌⊎◌}
use Rattle.std.proofs.lemmas.Bool.{and_from, and_parts, cases_Bool}
use Rattle.std.specs.Prelude.{if◌then◌else◌}
use Rattle.mb_outside.specs.Rows.{Rows}
use Rattle.mb_outside.specs.Told.{WhereTold}
use Rattle.sqlite.specs.Order.{Row}
use Rattle.sqlite_trees.specs.View.{doubt}
use Rattle.sqlite_trees.proofs.Doubt.{clean_of, no_doubt}
use Rattle.sqlite_schema.specs.declared.schema.Schema.{Schema}
use Rattle.sqlite_schema.specs.declared.command.Returning.{Returning}
use Rattle.sqlite_schema.specs.declared.command.Command.{Command}
use Rattle.sqlite_schema.specs.declared.command.Command.TheVariants.{Select, Insert, InsertOr, Update, Delete, CreateTable, CreateIndex, DropTable, DropIndex, Begin, Commit, Rollback, Savepoint as Save, Release, RollbackTo, Nothing, CreateView, DropView, Rows as Listed}
use Rattle.sqlite.specs.declared.error.Error.{Error}
use Rattle.sqlite.specs.Listing.{understood}
use Rattle.sqlite.specs.Clock.{timed}
use Rattle.sqlite.specs.Effect.{Database}
use Rattle.sqlite.proofs.Callers.{IsPlain}
use Rattle.sqlite.specs.State.{State, HasCleanDisk, IsUnchanged, IsRolledBack, IsNotRun, Executes, ExecutesIn, Runs, RunsCommand, shows_rows, FailsToQuery, FailsToShow, Shown, ShowsRows}
use Rattle.mb_keeper.specs.Effects.{Keeps}
use Rattle.mb_keeper.specs.Known.{IsLevel, IsOurs, Knows, told}
use Rattle.mb_keeper.specs.RowsInTable.{rows_in}

-- the database is as before, and no transaction is open
pub record Stays (old new : State) : Type 0 where
  pub same : new.now ≡ old.now
  pub settled : new.in_transaction ≡ false

-- nothing changed, or the transaction was undone
abbrev pub IsRefused : State → State → Type 0
IsRefused old new = IsUnchanged old new ⊎ IsRolledBack old new

-- a connection that is open after a refusal was open before
refused_open : (old new : State) → IsRefused old new → IsTrue new.is_open → IsTrue old.is_open
refused_open old new (inl h) on = h.0.was_open
refused_open old new (inr h) on = h.was_open on

-- outside a transaction a refusal leaves the database as it was
stays : (old new : State) → IsLevel old → IsRefused old new → IsTrue new.is_open
    → old.in_transaction ≡ false → Stays old new
stays old new level (inl h) on settled = record { same = h.0.now_is; settled = h.0.mode ∙ settled }
stays old new level (inr h) on settled =
    record { same = (h.undone on).0 ∙ sym (level settled (h.was_open on)); settled = h.autocommit }

-- a statement that was not run was refused
not_run : (old new : State) (sql : List ℕ) (params : Row) (e : Error)
    → IsNotRun old new sql params e → IsRefused old new
unfolding IsNotRun
not_run old new sql params e (inl h) = inl h.1
not_run old new sql params e (inr h) = inr h.3

-- so was a command that was not carried out
not_made : (old new : State) (sql : List ℕ) (c : _) (params : Row) (e : Error)
    → RunsCommand old new sql c params (Err e) → IsRefused old new
not_made old new sql c params e (inl h) = inl h.1
not_made old new sql c params e (inr h) = inr h.3

-- a query that is refused
pub refused_query : (old new : State) (sql : List ℕ) (params : Row) (e : Error)
    → FailsToQuery sql params old new e → IsRefused old new
unfolding FailsToQuery
refused_query old new sql params e (inl h) = not_run old new sql params e h
refused_query old new sql params e (inr h) = by h.0.returning h.2
  where
    by : (r : Option Returning) → FailsToShow old new sql h.0 (timed params h.0.formats h.1.now) e r
        → IsRefused old new
    by None shows = inl shows.3
    by (Some what) shows = not_made old new sql h.0 _ e shows

-- a statement that is refused
pub refused_statement : (old new : State) (sql : List ℕ) (params : Row) (e : Error)
    → Executes sql params old new (Err e) → IsRefused old new
unfolding ExecutesIn
refused_statement old new sql params e (inl h) = not_run old new sql params e h
refused_statement old new sql params e (inr h) = elim (cases_Bool (shows_rows false h.0)) [
  | inl shows ↦ inl (rw shows at h.2).1
  | inr runs ↦ not_made old new sql h.0 _ e (rw runs at h.2)
]

-- a command that ran was run on an open connection
ran_open : (old new : State) (returning : Option Returning) (command : Command) (text : List ℕ)
    (params : Row) (count : ℕ)
    → Runs old new returning command text params count → IsTrue new.is_open → IsTrue old.is_open
ran_open old new r (Select q names) text params count h on = absurd h
ran_open old new r (Insert at from) text params count h on = h.shown.was_open
ran_open old new r (InsertOr at how from clauses) text params count h on = h.shown.was_open
ran_open old new r (Update at q) text params count h on = h.shown.was_open
ran_open old new r (Delete at q) text params count h on = h.shown.was_open
ran_open old new r CreateTable text params count h on = h.shown.was_open
ran_open old new r (CreateIndex at) text params count h on = h.shown.was_open
ran_open old new r (DropTable at) text params count h on = h.shown.was_open
ran_open old new r (DropIndex at) text params count h on = h.shown.was_open
ran_open old new r Begin text params count h on = h.1.was_open
ran_open old new r Commit text params count h on = h.1.was_open
ran_open old new r Rollback text params count h on = h.1.was_open on
ran_open old new r (Save name) text params count h on = h.0.0.was_open
ran_open old new r (Release name) text params count h on =
    elim h.2 [ inl it ↦ it.1.0.was_open | inr it ↦ it.1.0.was_open ]
ran_open old new r (RollbackTo name) text params count h on = h.2.2.was_open
ran_open old new r (Listed values width names) text params count h on = h.0.0.was_open
ran_open old new r Nothing text params count h on = h.0.0.was_open
ran_open old new r CreateView text params count h on = h.shown.was_open
ran_open old new r (DropView at) text params count h on = h.shown.was_open

-- a connection that is open after a statement was open before
pub executed_open : (old new : State) (sql : List ℕ) (params : Row) (count : ℕ)
    → Executes sql params old new (Ok count) → IsTrue new.is_open → IsTrue old.is_open
unfolding ExecutesIn
executed_open old new sql params count h on = elim (cases_Bool (shows_rows false h.0)) [
  | inl shows ↦ absurd (let e = (rw shows at h.2).0 in cc)
  | inr runs ↦ ran_open old new h.0.returning h.0.command _ _ count (rw runs at h.2) on
]

-- a query that answered was asked of an open connection
pub shown_open : (old new : State) (sql : List ℕ) (params : Row) (rows : List Row)
    → Shown sql params old new rows → IsTrue old.is_open
unfolding Shown
shown_open old new sql params rows h = by h.0.returning h.2
  where
    by : (r : Option Returning)
        → ShowsRows old new sql h.0 (timed params h.0.formats h.1.now) rows r → IsTrue old.is_open
    by None shows = shows.3.0.was_open
    by (Some what) shows = shows.1.shown.was_open

-- and where it is plain, it changed nothing
pub shown_same : (old new : State) (sql : List ℕ) (params : Row) (rows : List Row) (schema : Schema)
    → old.now.schema ≡ schema → IsPlain (understood schema sql) → Shown sql params old new rows
    → IsUnchanged old new
unfolding Shown
shown_same old new sql params rows schema has plain h =
    let known = sym h.1.is ∙ ap (λ s. understood s sql) has in
    let bare = subst IsPlain (sym known) plain in
    let shows = rw bare.0 at h.2 in shows.3

-- what is told is told of an open connection on a disk that returned what was written
pub record Tells (s : State) (rows : Rows) : Type 0 where
  pub clean : HasCleanDisk s
  pub is_open : IsTrue s.is_open
  pub is : rows_in (s.now.trees 0) ≡ rows

-- what is told comes from an open connection to a clean disk
pub tells : (s : State) (rows : Rows) → told s ≡ Some rows → Tells s rows
tells s rows e = by (s.is_clean && s.is_open) refl
  where
    by : (b : Bool) → (s.is_clean && s.is_open) ≡ b → Tells s rows
    by true on =
        let parts = and_parts s.is_clean s.is_open on in
        let same : Some (rows_in (s.now.trees 0)) ≡ Some rows =
        sym (ap (λ b. if b then Some (rows_in (s.now.trees 0)) else None) on) ∙ e in
        record { clean = no_doubt s.is_clean parts.0; is_open = parts.1; is = cc }
    by false on = absurd (let same =
        sym (ap (λ b. if b then Some (rows_in (s.now.trees 0)) else None) on) ∙ e in cc)

-- an open connection to a clean disk tells its rows
pub tells_back : (s : State) → HasCleanDisk s → IsTrue s.is_open
    → told s ≡ Some (rows_in (s.now.trees 0))
tells_back s clean on =
    ap (λ b. if b then Some (rows_in (s.now.trees 0)) else None)
    (and_from s.is_clean s.is_open (clean_of s.is_clean clean) on)

-- what is so where a call's end is known is so where the rows are told at its return
pub where_told : (old new : State) (Fact : Rows → Rows → Type 0)
    → doubt old.is_clean ≤ doubt new.is_clean
    → (HasCleanDisk old → HasCleanDisk new → IsTrue new.is_open
    → IsTrue old.is_open × Fact (rows_in (old.now.trees 0)) (rows_in (new.now.trees 0)))
    → WhereTold (told old) (told new) Fact
where_told old new Fact falls h = by (told new) refl
  where
    by : (o : Option Rows) → told new ≡ o → WhereTold (told old) o Fact
    by None e = tt
    by (Some after) e =
        let t = tells new after e in
        let clean : HasCleanDisk old = omega (arith, t.clean, falls) in
        let it = h clean t.clean t.is_open in
        rw (tells_back old clean it.0) (subst (Fact (rows_in (old.now.trees 0))) t.is it.1)

-- what a call makes of a database that is ours
pub keeps : (old new : State) (Fact : Rows → Rows → Type 0)
    → doubt old.is_clean ≤ doubt new.is_clean → Knows old
    → (HasCleanDisk new → IsTrue new.is_open → IsTrue old.is_open)
    → (HasCleanDisk new → IsTrue new.is_open → IsTrue old.is_open → old.in_transaction ≡ false
    → IsOurs old.now → (new.in_transaction ≡ false) × IsOurs new.now
    × Fact (rows_in (old.now.trees 0)) (rows_in (new.now.trees 0)))
    → Keeps old new Fact
keeps old new Fact falls knows was made = record {
  known = λ clean on. let it = all clean on in (it.0, it.1);
  rows = where_told old new Fact falls (λ before clean on. (was clean on, (all clean on).2));
}
  where
    all : HasCleanDisk new → IsTrue new.is_open
        → (new.in_transaction ≡ false) × IsOurs new.now
        × Fact (rows_in (old.now.trees 0)) (rows_in (new.now.trees 0))
    all clean on =
        let before : HasCleanDisk old = omega (arith, clean, falls) in
        let k = knows before (was clean on) in
        made clean on (was clean on) k.0 k.1

-- a refusal leaves the database and what is told
pub keeps_refused : (old new : State) (Fact : Rows → Rows → Type 0)
    → doubt old.is_clean ≤ doubt new.is_clean → Knows old → IsLevel old
    → (HasCleanDisk new → IsRefused old new) → ((rows : Rows) → Fact rows rows) → Keeps old new Fact
keeps_refused old new Fact falls knows level refused fact =
    keeps old new Fact falls knows (λ clean. refused_open old new (refused clean))
    (λ clean on was settled ours.
    let s = stays old new level (refused clean) on settled in (
      s.settled,
      subst IsOurs (sym s.same) ours,
      subst
          (λ (db : Database). Fact (rows_in (old.now.trees 0)) (rows_in (db.trees 0))) (sym s.same)
          (fact (rows_in (old.now.trees 0))),
    ))

-- so of a query that changed nothing
pub keeps_same : (old new : State) (Fact : Rows → Rows → Type 0)
    → doubt old.is_clean ≤ doubt new.is_clean → Knows old → (HasCleanDisk new → IsTrue old.is_open)
    → (HasCleanDisk new → IsOurs old.now
    → IsUnchanged old new × Fact (rows_in (old.now.trees 0)) (rows_in (old.now.trees 0)))
    → Keeps old new Fact
keeps_same old new Fact falls knows was same =
    keeps old new Fact falls knows (λ clean on. was clean)
    (λ clean on was settled ours.
    let it = same clean ours in (
      it.0.0.mode ∙ settled,
      subst IsOurs (sym it.0.0.now_is) ours,
      subst
          (λ (db : Database). Fact (rows_in (old.now.trees 0)) (rows_in (db.trees 0)))
          (sym it.0.0.now_is) it.1,
    ))

-- of a fact follows a weaker one
told_weaker : (a b : Option Rows) (F G : Rows → Rows → Type 0) → ((x y : Rows) → F x y → G x y)
    → WhereTold a b F → WhereTold a b G
told_weaker a None F G weaker h = tt
told_weaker None (Some y) F G weaker h = absurd h
told_weaker (Some x) (Some y) F G weaker h = weaker x y h

-- a weaker fact is kept too
pub keeps_weaker : (old new : State) (F G : Rows → Rows → Type 0) → ((x y : Rows) → F x y → G x y)
    → Keeps old new F → Keeps old new G
keeps_weaker old new F G weaker h =
    record { known = h.known; rows = told_weaker (told old) (told new) F G weaker h.rows }
