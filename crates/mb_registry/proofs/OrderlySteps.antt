-- Orderly rows stay orderly along accepted steps.
use Rattle.std.proofs.Common.{Bool, Err, List, None, Ok, Option, Some, [], ap, cond, eq-eqb, false, refl, subst, sym, true, ℕ, ◌==◌, ◌||◌, ◌∙◌, ◌∷◌, ◌≡◌}
use Rattle.std.proofs.lemmas.List.Elements.{All-head, All-tail}
use Rattle.std.proofs.lemmas.Slice.Eq.{bytes_eq-Decides}
use Rattle.std.specs.FinMap.{empty, get, get-empty, get-insert, get-remove, insert, keys, remove}
use Rattle.std.specs.List.{list_any}
use Rattle.std.specs.Prelude.{All, IsSome, if◌then◌else◌}
use Rattle.mb_outside.proofs.KeptRows.{keys_total}
use Rattle.mb_outside.specs.Rows.{Key, Rows, key_cmp, names_among}
use Rattle.mb_registry.proofs.OrderlyRows.{kept_there, kind_by_number, listed_known}
use Rattle.mb_registry.proofs.RecordTexts.{record_back, record_written}
use Rattle.mb_registry.proofs.RowKeys.{same_is, same_key, still_there, there_key}
use Rattle.mb_registry.specs.Adding.{beside_kept, refers, rows_added}
use Rattle.mb_registry.specs.Bodies.{HasFewTables, IsRecord, body_of, record_of}
use Rattle.mb_registry.specs.Faults.{Answer}
use Rattle.mb_registry.specs.Kinds.{key_of, kind_number}
use Rattle.mb_registry.specs.Looking.{kept}
use Rattle.mb_registry.specs.Orderly.{Adds, AreOrderly, IsOrderlyRow, IsStep, IsThere, Removes, Step, after_step, after_steps, record_added}
use Rattle.mb_registry.specs.Records.{OfAnalysis, OfBasis, OfDataset, OfModel, RecordValue, kind_of, reference_of, referring_kind}
use Rattle.mb_registry.specs.Removing.{all_let_go, has_name, lets_go, listed_record, removed_of, rows_removed, unused}
use Rattle.mb_registry.specs.declared.adding.Added.{Added}
use Rattle.mb_registry.specs.declared.adding.Added.TheVariants.{Stored, Unchanged}
use Rattle.mb_registry.specs.declared.fault.RegistryFault.TheVariants.{InUse}
use Rattle.mb_registry.specs.declared.kinds.Kind.{Kind}
use Rattle.mb_registry.specs.declared.kinds.Kind.TheVariants.{Basis, Dataset, Model}
use Rattle.mb_tables.specs.Answers.{◌>>=◌}
use Rattle.mb_text.proofs.RecordSteps.{stepped}
use Rattle.mb_text.specs.Name.{IsName}

-- no rows are orderly
pub empty_orderly : AreOrderly empty
empty_orderly key body e = absurd (cc (sym (get-empty key_cmp key) ∙ e))

-- ---- adding

-- a reference that was looked up is there
pub refers_there : (reference : Option (Kind × List ℕ)) (rows : Rows) (done : Unit {0}) →
    refers reference rows ≡ Ok done → IsThere reference rows
refers_there None rows done e = tt
refers_there (Some reference) rows done e =
    let found = stepped (kept reference.0 reference.1 rows) (λ body. Ok tt) done e in
    subst IsSome (sym (kept_there reference.0 reference.1 rows found.0 found.1)) refl

-- and is still there after an insertion
pub there_after : (reference : Option (Kind × List ℕ)) (rows : Rows) (key : Key) (body : List ℕ) →
    IsThere reference rows → IsThere reference (insert rows key body)
there_after None rows key body there = tt
there_after (Some reference) rows key body there =
    still_there rows key (key_of reference.0 reference.1) body there

-- so is a row
row_after : (rows : Rows) (key q : Key) (body new : List ℕ) → IsOrderlyRow rows q body →
    IsOrderlyRow (insert rows key new) q body
row_after rows key q body new row = record {
  kind = row.kind;
  numbered = row.numbered;
  named = row.named;
  entry = row.entry;
  says = row.says;
  referred = there_after (reference_of row.entry) rows key new row.referred;
}

-- rows with an orderly row more
one_more : (rows : Rows) (key : Key) (new : List ℕ) → AreOrderly rows →
    IsOrderlyRow (insert rows key new) key new → AreOrderly (insert rows key new)
one_more rows key new orderly row q body e =
    by (same_key q key) refl (sym (get-insert keys_total rows key new q) ∙ e)
  where
    by : (b : Bool) → same_key q key ≡ b → cond b (Some new) (get rows q) ≡ Some body →
        IsOrderlyRow (insert rows key new) q body
    by true same f =
        let one : q ≡ key = same_is q key same in
        let other : new ≡ body = cc in
        subst (λ b. IsOrderlyRow (insert rows key new) q b) other
        (subst (λ k. IsOrderlyRow (insert rows key new) k new) (sym one) row)
    by false same f = row_after rows key q body new (orderly q body f)

-- rows with a record more, whose reference is there
inserted_orderly : (rows : Rows) (name : List ℕ) (entry : RecordValue) → AreOrderly rows →
    IsName name → IsRecord entry → HasFewTables entry → IsThere (reference_of entry) rows →
    AreOrderly (insert rows (key_of (kind_of entry) name) (body_of entry))
inserted_orderly rows name entry orderly is sound few there =
    one_more rows (key_of (kind_of entry) name) (body_of entry) orderly (record {
      kind = kind_of entry;
      numbered = refl;
      named = is;
      entry = entry;
      says = record_written entry sound few;
      referred =
          there_after (reference_of entry) rows (key_of (kind_of entry) name) (body_of entry) there;
    })

-- so are rows to which a record was added
added_orderly : (rows : Rows) (name : List ℕ) (entry : RecordValue) (added : Added) →
    AreOrderly rows → IsName name → IsRecord entry → HasFewTables entry →
    record_added name entry rows ≡ Ok added →
    AreOrderly (rows_added (kind_of entry) name (body_of entry) added rows)
added_orderly rows name entry Unchanged orderly is sound few e = orderly
added_orderly rows name entry Stored orderly is sound few e =
    let found =
    stepped (refers (reference_of entry) rows)
    (λ there. beside_kept (body_of entry) (get rows (key_of (kind_of entry) name))) Stored e in
    inserted_orderly rows name entry orderly is sound few
    (refers_there (reference_of entry) rows found.0 found.1)

-- ---- removing

-- a listed name was let go
listed_goes : (name : List ℕ) (by : Kind) (ks : List Key) (rows : Rows) (referring : List ℕ)
    (done : Unit {0}) → list_any (same_key (key_of by referring)) ks ≡ true →
    all_let_go name by (names_among (kind_number by) ks) rows ≡ Ok done →
    (free : Unit {0}) × (lets_go name by referring rows ≡ Ok free)
unfolding all_let_go names_among
listed_goes name by [] rows referring done any e = absurd (cc any)
listed_goes name by (key ∷ ks) rows referring done any e =
    which (key.0 == kind_number by) refl (same_key (key_of by referring) key) refl any e
    (λ more rest. listed_goes name by ks rows referring done more rest)
  where
    which : (b : Bool) → (key.0 == kind_number by) ≡ b →
        (s : Bool) → same_key (key_of by referring) key ≡ s →
        (s || list_any (same_key (key_of by referring)) ks) ≡ true →
        all_let_go name by
        (if b then key.1 ∷ names_among (kind_number by) ks else names_among (kind_number by) ks)
        rows ≡ Ok done →
        (list_any (same_key (key_of by referring)) ks ≡ true →
        all_let_go name by (names_among (kind_number by) ks) rows ≡ Ok done →
        (free : Unit {0}) × (lets_go name by referring rows ≡ Ok free)) →
        (free : Unit {0}) × (lets_go name by referring rows ≡ Ok free)
    which true numbered true same any e later =
        let one : key_of by referring ≡ key = same_is (key_of by referring) key same in
        let first =
        stepped (lets_go name by key.1 rows)
        (λ free. all_let_go name by (names_among (kind_number by) ks) rows) done e in
        (first.0, ap (λ (k : Key). lets_go name by k.1 rows) one ∙ first.1)
    which true numbered false same any e later =
        let first =
        stepped (lets_go name by key.1 rows)
        (λ free. all_let_go name by (names_among (kind_number by) ks) rows) done e in
        later any first.2
    which false numbered true same any e later =
        let one : key_of by referring ≡ key = same_is (key_of by referring) key same in
        let number : key.0 ≡ kind_number by = ap (λ (k : Key). k.0) (sym one) in
        absurd (cc (sym numbered ∙ eq-eqb key.0 (kind_number by) number))
    which false numbered false same any e later = later any e

-- the kind of a record refers to the kind of its reference
refers_by : (entry : RecordValue) (reference : Kind × List ℕ) →
    reference_of entry ≡ Some reference → referring_kind reference.0 ≡ Some (kind_of entry)
refers_by (OfDataset table) reference e = absurd (cc e)
refers_by (OfModel dataset model) reference e =
    let one : (Dataset, dataset) ≡ reference = cc in
    ap (λ (r : Kind × List ℕ). referring_kind r.0) (sym one)
refers_by (OfBasis model certificate) reference e =
    let one : (Model, model) ≡ reference = cc in
    ap (λ (r : Kind × List ℕ). referring_kind r.0) (sym one)
refers_by (OfAnalysis report) reference e =
    let one : (Basis, report.basis) ≡ reference = cc in
    ap (λ (r : Kind × List ℕ). referring_kind r.0) (sym one)

-- a record that refers to a record of this name isn't let go
kept_back : (name : List ℕ) (by : Kind) (referring : List ℕ) (rows : Rows) (entry : RecordValue)
    (reference : Kind × List ℕ) (free : Unit {0}) → listed_record by referring rows ≡ Ok entry →
    reference_of entry ≡ Some reference → reference.1 ≡ name →
    lets_go name by referring rows ≡ Ok free → ⊥
kept_back name by referring rows entry reference free listed refers same e =
    let test : has_name name (reference_of entry) ≡ true =
    ap (has_name name) refers ∙ (bytes_eq-Decides reference.1 name).1 same in
    let in_use : lets_go name by referring rows ≡ Err (InUse referring) =
    ap (λ (r : Answer RecordValue). (r >>= λ entry. Ok (has_name name (reference_of entry)))
    >>= λ in_use. if in_use then Err (InUse referring) else Ok tt) listed
    ∙ ap (λ b. if b then Err (InUse referring) else Ok tt) test in
    absurd (cc (sym in_use ∙ e))

-- what is known of the key of a row and its body
record OtherRow (q : Key) (body : List ℕ) (entry : RecordValue) : Type 0 where
  pub key_is : q ≡ key_of (kind_of entry) q.1
  pub says : record_of (kind_of entry) body ≡ Some entry

-- of an orderly row
other_row : (rows : Rows) (q : Key) (body : List ℕ) (row : IsOrderlyRow rows q body) →
    OtherRow q body row.entry
other_row rows q body row =
    let kind_is : row.kind ≡ kind_of row.entry =
    sym (record_back row.kind body row.entry row.says).kind_is in
    record {
      key_is = ap (λ n. (n, q.1)) (row.numbered ∙ ap kind_number kind_is);
      says = subst (λ k. record_of k body ≡ Some row.entry) kind_is row.says;
    }

module _ (rows : Rows) (kind : Kind) (name : List ℕ) (orderly : AreOrderly rows)
    (free : unused name (referring_kind kind) rows ≡ Ok tt) where
  -- no row refers to the one that is removed
  none_refers : (q : Key) (body : List ℕ) (entry : RecordValue) (reference : Kind × List ℕ) →
      get rows q ≡ Some body → q ≡ key_of (kind_of entry) q.1 →
      record_of (kind_of entry) body ≡ Some entry → reference_of entry ≡ Some reference →
      key_of reference.0 reference.1 ≡ key_of kind name → ⊥
  none_refers q body entry reference there key_is says refers same =
      let by = kind_of entry in
      let kind_same : reference.0 ≡ kind =
      kind_by_number reference.0 kind (ap (λ (k : Key). k.0) same) in
      let name_same : reference.1 ≡ name = ap (λ (k : Key). k.1) same in
      let by_is : referring_kind kind ≡ Some by =
      ap referring_kind (sym kind_same) ∙ refers_by entry reference refers in
      let all : unused name (Some by) rows ≡ Ok tt =
      ap (λ k. unused name k rows) (sym by_is) ∙ free in
      let kept_row : get rows (key_of by q.1) ≡ Some body = ap (get rows) (sym key_is) ∙ there in
      let goes =
      listed_goes name by (keys rows) rows q.1 tt (there_key rows (key_of by q.1) body kept_row)
      all in
      let known = listed_known rows by q.1 body orderly kept_row in
      let one : known.0 ≡ entry =
      some_is known.0 entry (sym known.2 ∙ says) in
      kept_back name by q.1 rows entry reference goes.0
      (known.1 ∙ ap (λ e. Ok e) one) refers name_same goes.1
    where
      some_is : (x y : RecordValue) → ◌≡◌ {A = Option RecordValue} (Some x) (Some y) → x ≡ y
      some_is x y e = cc

  -- what a row refers to is still there
  still_referred : (q : Key) (body : List ℕ) (entry : RecordValue)
      (reference : Option (Kind × List ℕ)) → get rows q ≡ Some body →
      q ≡ key_of (kind_of entry) q.1 → record_of (kind_of entry) body ≡ Some entry →
      reference_of entry ≡ reference → IsThere reference rows →
      IsThere reference (remove rows (key_of kind name))
  still_referred q body entry None there key_is says refers before = tt
  still_referred q body entry (Some reference) there key_is says refers before =
      subst IsSome
      (sym (get-remove keys_total rows (key_of kind name) (key_of reference.0 reference.1)))
      (by (same_key (key_of reference.0 reference.1) (key_of kind name)) refl)
    where
      by : (b : Bool) → same_key (key_of reference.0 reference.1) (key_of kind name) ≡ b →
          IsSome (cond b None (get rows (key_of reference.0 reference.1)))
      by true same =
          absurd (none_refers q body entry reference there key_is says refers
          (same_is (key_of reference.0 reference.1) (key_of kind name) same))
      by false same = before

  -- rows with one record less
  fewer_orderly : AreOrderly (remove rows (key_of kind name))
  fewer_orderly q body e =
      by (same_key q (key_of kind name))
      (sym (get-remove keys_total rows (key_of kind name) q) ∙ e)
    where
      by : (b : Bool) → cond b None (get rows q) ≡ Some body →
          IsOrderlyRow (remove rows (key_of kind name)) q body
      by true f = absurd (cc f)
      by false f =
          let row = orderly q body f in
          let other = other_row rows q body row in
          record {
            kind = row.kind;
            numbered = row.numbered;
            named = row.named;
            entry = row.entry;
            says = row.says;
            referred =
                still_referred q body row.entry (reference_of row.entry) f other.key_is other.says
                refl row.referred;
          }

-- rows from which a record was removed
removed_orderly : (rows : Rows) (kind : Kind) (name : List ℕ) (done : Unit {0}) →
    AreOrderly rows → removed_of kind name rows ≡ Ok done →
    AreOrderly (rows_removed kind name done rows)
removed_orderly rows kind name done orderly e =
    let found =
    stepped (kept kind name rows) (λ body. unused name (referring_kind kind) rows) done e in
    fewer_orderly rows kind name orderly found.2

-- ---- steps

-- rows after a step
step_orderly : (step : Step) (rows later : Rows) → IsStep step → AreOrderly rows →
    after_step step rows ≡ Ok later → AreOrderly later
step_orderly (Adds name entry) rows later is orderly e =
    let found =
    stepped (record_added name entry rows)
    (λ added. Ok (rows_added (kind_of entry) name (body_of entry) added rows)) later e in
    let same : rows_added (kind_of entry) name (body_of entry) found.0 rows ≡ later = cc in
    subst AreOrderly same
    (added_orderly rows name entry found.0 orderly is.0 is.1.0 is.1.1 found.1)
step_orderly (Removes kind name) rows later is orderly e =
    let found =
    stepped (removed_of kind name rows) (λ done. Ok (rows_removed kind name done rows)) later e in
    let same : rows_removed kind name found.0 rows ≡ later = cc in
    subst AreOrderly same (removed_orderly rows kind name found.0 orderly found.1)

-- rows after steps
pub steps_orderly : (steps : List Step) (rows later : Rows) → All IsStep steps → AreOrderly rows →
    after_steps steps rows ≡ Ok later → AreOrderly later
unfolding after_steps
steps_orderly [] rows later are orderly e =
    let same : rows ≡ later = cc in subst AreOrderly same orderly
steps_orderly (step ∷ steps) rows later are orderly e =
    let found =
    stepped (after_step step rows) (λ later. after_steps steps later) later e in
    steps_orderly steps found.0 later (All-tail IsStep step steps are)
    (step_orderly step rows found.0 (All-head IsStep step steps are) orderly found.1) found.2
