-- Orderly rows: what is known of each, and that no call meets a bad record over them.
use Rattle.std.proofs.Common.{Bool, Err, List, None, Ok, Option, Some, [], ap, eqb-true, false, refl, subst, sym, true, ℕ, ◌++◌, ◌==◌, ◌∙◌, ◌∷◌, ◌≡◌, ◌≢◌}
use Rattle.std.specs.FinMap.{get, keys}
use Rattle.std.specs.List.{AllByRecursion}
use Rattle.std.specs.Option.{ok_or, option_and_then, option_map}
use Rattle.std.specs.Prelude.{IsSome, if◌then◌else◌}
use Rattle.mb_outside.specs.Rows.{Key, Rows, names_among, names_of}
use Rattle.mb_registry.proofs.RowKeys.{keys_there}
use Rattle.mb_registry.specs.Bodies.{record_of}
use Rattle.mb_registry.specs.Faults.{Answer}
use Rattle.mb_registry.specs.Kinds.{key_of, kind_number}
use Rattle.mb_registry.specs.Listing.{all_kinds, listed_as, listed_of, listed_row, listed_rows, rows_of_kind, rows_of_kinds}
use Rattle.mb_registry.specs.Looking.{get_of, kept}
use Rattle.mb_registry.specs.Orderly.{AreOrderly, IsThere}
use Rattle.mb_registry.specs.Records.{RecordValue, reference_of, referring_kind}
use Rattle.mb_registry.specs.Removing.{all_let_go, has_name, lets_go, listed_record, refers_to, removed_of, unused}
use Rattle.mb_registry.specs.declared.fault.RegistryFault.TheVariants.{BadRecord, InUse, Unknown}
use Rattle.mb_registry.specs.declared.kinds.Kind.{Kind}
use Rattle.mb_registry.specs.declared.kinds.Kind.TheVariants.{Analysis, Basis, Dataset, Model}
use Rattle.mb_tables.specs.Answers.{◌>>=◌}
use Rattle.mb_text.specs.Name.{is_name}

-- the kind of a number
abbrev kind_at : ℕ → Kind
kind_at n = if n == 1 then Dataset else if n == 2 then Model else if n == 3 then Basis else Analysis

-- the number of a kind tells it
kind_at_number : (kind : Kind) → kind_at (kind_number kind) ≡ kind
kind_at_number Dataset = refl
kind_at_number Model = refl
kind_at_number Basis = refl
kind_at_number Analysis = refl

-- so kinds of one number are one
pub kind_by_number : (a b : Kind) → kind_number a ≡ kind_number b → a ≡ b
kind_by_number a b e = sym (kind_at_number a) ∙ ap kind_at e ∙ kind_at_number b

-- what is known of the row of a kind and a name
pub record KnownRow (rows : Rows) (kind : Kind) (name body : List ℕ) : Type 0 where
  pub named : is_name name ≡ true
  pub entry : RecordValue
  pub says : record_of kind body ≡ Some entry
  pub referred : IsThere (reference_of entry) rows

-- so much is, where rows are orderly
pub known_row : (rows : Rows) (kind : Kind) (name body : List ℕ) → AreOrderly rows →
    get rows (key_of kind name) ≡ Some body → KnownRow rows kind name body
known_row rows kind name body orderly e =
    let row = orderly (key_of kind name) body e in
    let same : row.kind ≡ kind = kind_by_number row.kind kind (sym row.numbered) in
    record {
      named = row.named;
      entry = row.entry;
      says = subst (λ k. record_of k body ≡ Some row.entry) same row.says;
      referred = row.referred;
    }

-- no bad record is answered
abbrev pub IsNotBad : {A : Type 0} → Answer A → Type 0
IsNotBad {A} answer = (asked : Kind) (bad : List ℕ) → answer ≢ Err (BadRecord asked bad)

-- a step that goes on after one that is not bad
pub then_not_bad : {A B : Type 0} (step : Answer A) (next : A → Answer B) → IsNotBad step →
    ((x : A) → step ≡ Ok x → IsNotBad (next x)) → IsNotBad (step >>= next)
then_not_bad (Ok x) next first later = later x refl
then_not_bad (Err fault) next first later =
    λ asked bad e.
    let same : fault ≡ BadRecord asked bad = cc in first asked bad (ap (λ f. Err f) same)

-- a body that is looked up
pub kept_not_bad : (kind : Kind) (name : List ℕ) (rows : Rows) → IsNotBad (kept kind name rows)
kept_not_bad kind name rows = by (get rows (key_of kind name))
  where
    by : (found : Option (List ℕ)) → IsNotBad (ok_or found (Unknown kind name))
    by None asked bad e = absurd (cc e)
    by (Some body) asked bad e = absurd (cc e)

-- a body that was found is kept
pub kept_there : (kind : Kind) (name : List ℕ) (rows : Rows) (body : List ℕ) →
    kept kind name rows ≡ Ok body → get rows (key_of kind name) ≡ Some body
kept_there kind name rows body = by (get rows (key_of kind name))
  where
    by : (found : Option (List ℕ)) → ok_or found (Unknown kind name) ≡ Ok body → found ≡ Some body
    by None e = absurd (cc e)
    by (Some other) e = cc e

-- a value that is there is not bad
said_not_bad : {A : Type 0} (kind : Kind) (name : List ℕ) (o : Option A) (x : A) → o ≡ Some x →
    IsNotBad (ok_or o (BadRecord kind name))
said_not_bad kind name None x there = absurd (cc there)
said_not_bad kind name (Some y) x there = λ asked bad e. absurd (cc e)

-- a look-up over orderly rows
pub get_not_bad : (kind : Kind) (name : List ℕ) (rows : Rows) → AreOrderly rows →
    IsNotBad (get_of kind name rows)
get_not_bad kind name rows orderly =
    then_not_bad (kept kind name rows) (λ body. ok_or (record_of kind body) (BadRecord kind name))
    (kept_not_bad kind name rows)
    (λ body e.
    let known = known_row rows kind name body orderly (kept_there kind name rows body e) in
    said_not_bad kind name (record_of kind body) known.entry known.says)

-- the names of a kind among keys that are there have bodies
names_there : (rows : Rows) (kind : Kind) (ks : List Key) →
    AllByRecursion (λ q. IsSome (get rows q)) ks →
    AllByRecursion (λ name. IsSome (get rows (key_of kind name)))
    (names_among (kind_number kind) ks)
unfolding names_among
names_there rows kind [] all = tt
names_there rows kind (key ∷ ks) all =
    by (key.0 == kind_number kind) refl (names_there rows kind ks all.1)
  where
    by : (b : Bool) → (key.0 == kind_number kind) ≡ b →
        AllByRecursion (λ name. IsSome (get rows (key_of kind name)))
        (names_among (kind_number kind) ks) →
        AllByRecursion (λ name. IsSome (get rows (key_of kind name)))
        (if b then key.1 ∷ names_among (kind_number kind) ks else names_among (kind_number kind) ks)
    by true e rest = (
      subst (λ n. IsSome (get rows (n, key.1))) (eqb-true key.0 (kind_number kind) e) all.0,
      rest,
    )
    by false e rest = rest

-- an answer that is a value is not bad
ok_not_bad : {A : Type 0} (answer : Answer A) (x : A) → answer ≡ Ok x → IsNotBad answer
ok_not_bad answer x is asked bad e = absurd (cc (sym is ∙ e))

-- the record of a listed name, where the row is there
pub listed_known : (rows : Rows) (by : Kind) (name body : List ℕ) → AreOrderly rows →
    get rows (key_of by name) ≡ Some body →
    (entry : RecordValue) × (listed_record by name rows ≡ Ok entry)
    × (record_of by body ≡ Some entry)
listed_known rows by name body orderly there =
    let known = known_row rows by name body orderly there in (
      known.entry,
      ap (λ b. if b then ok_or (option_and_then (record_of by) (get rows (key_of by name)))
          (BadRecord by name) else Err (BadRecord by name)) known.named
          ∙ ap (λ o. ok_or (option_and_then (record_of by) o) (BadRecord by name)) there
          ∙ ap (λ o. ok_or o (BadRecord by name)) known.says,
      known.says,
    )

-- a record that refers is in use, and no bad one
in_use_not_bad : (referring : List ℕ) (b : Bool) →
    IsNotBad (if b then Err (InUse referring) else Ok (tt {0}))
in_use_not_bad referring true asked bad e = absurd (cc e)
in_use_not_bad referring false asked bad e = absurd (cc e)

-- a body that is there
some_body : (o : Option (List ℕ)) → IsSome o → (body : List ℕ) × (o ≡ Some body)
some_body None there = absurd (cc there)
some_body (Some body) there = (body, refl)

-- a listed name over orderly rows
lets_go_not_bad : (name : List ℕ) (by : Kind) (referring : List ℕ) (rows : Rows) →
    AreOrderly rows → IsSome (get rows (key_of by referring)) →
    IsNotBad (lets_go name by referring rows)
lets_go_not_bad name by referring rows orderly there =
    let found = some_body (get rows (key_of by referring)) there in
    let known = listed_known rows by referring found.0 orderly found.1 in
    then_not_bad (refers_to name by referring rows)
    (λ in_use. if in_use then Err (InUse referring) else Ok tt)
    (then_not_bad (listed_record by referring rows)
    (λ entry. Ok (has_name name (reference_of entry)))
    (ok_not_bad (listed_record by referring rows) known.0 known.1)
    (λ entry e. ok_not_bad _ (has_name name (reference_of entry)) refl))
    (λ in_use e. in_use_not_bad referring in_use)

-- all listed names
all_not_bad : (name : List ℕ) (by : Kind) (names : List (List ℕ)) (rows : Rows) →
    AreOrderly rows → AllByRecursion (λ n. IsSome (get rows (key_of by n))) names →
    IsNotBad (all_let_go name by names rows)
unfolding all_let_go
all_not_bad name by [] rows orderly all = λ asked bad e. absurd (cc e)
all_not_bad name by (referring ∷ others) rows orderly all =
    then_not_bad (lets_go name by referring rows) (λ free. all_let_go name by others rows)
    (lets_go_not_bad name by referring rows orderly all.0)
    (λ free e. all_not_bad name by others rows orderly all.1)

-- the names of a kind that may refer
unused_not_bad : (name : List ℕ) (by : Option Kind) (rows : Rows) → AreOrderly rows →
    IsNotBad (unused name by rows)
unused_not_bad name None rows orderly = λ asked bad e. absurd (cc e)
unused_not_bad name (Some by) rows orderly =
    all_not_bad name by (names_of (kind_number by) rows) rows orderly
    (names_there rows by (keys rows) (keys_there rows))

-- a removal over orderly rows
pub removed_not_bad : (kind : Kind) (name : List ℕ) (rows : Rows) → AreOrderly rows →
    IsNotBad (removed_of kind name rows)
removed_not_bad kind name rows orderly =
    then_not_bad (kept kind name rows) (λ body. unused name (referring_kind kind) rows)
    (kept_not_bad kind name rows)
    (λ body e. unused_not_bad name (referring_kind kind) rows orderly)

-- a listed row over orderly rows
row_not_bad : (kind : Kind) (name : List ℕ) (rows : Rows) → AreOrderly rows →
    IsSome (get rows (key_of kind name)) → IsNotBad (listed_row kind name rows)
row_not_bad kind name rows orderly there =
    let found = some_body (get rows (key_of kind name)) there in
    let known = known_row rows kind name found.0 orderly found.1 in
    ok_not_bad (listed_row kind name rows) (listed_as kind name found.0)
    (ap (λ b. if b then ok_or (option_map (listed_as kind name) (get rows (key_of kind name)))
    (BadRecord kind name) else Err (BadRecord kind name)) known.named
    ∙ ap (λ o. ok_or (option_map (listed_as kind name) o) (BadRecord kind name)) found.1)

-- all rows of a kind
rows_not_bad : (kind : Kind) (names : List (List ℕ)) (rows : Rows) → AreOrderly rows →
    AllByRecursion (λ n. IsSome (get rows (key_of kind n))) names →
    IsNotBad (listed_rows kind names rows)
unfolding listed_rows
rows_not_bad kind [] rows orderly all = λ asked bad e. absurd (cc e)
rows_not_bad kind (name ∷ names) rows orderly all =
    then_not_bad (listed_row kind name rows)
    (λ first. listed_rows kind names rows >>= λ others. Ok (first ∷ others))
    (row_not_bad kind name rows orderly all.0)
    (λ first e.
    then_not_bad (listed_rows kind names rows) (λ others. Ok (first ∷ others))
    (rows_not_bad kind names rows orderly all.1) (λ others f. ok_not_bad _ (first ∷ others) refl))

-- all rows of kinds
kinds_not_bad : (kinds : List Kind) (rows : Rows) → AreOrderly rows →
    IsNotBad (rows_of_kinds kinds rows)
unfolding rows_of_kinds
kinds_not_bad [] rows orderly = λ asked bad e. absurd (cc e)
kinds_not_bad (kind ∷ kinds) rows orderly =
    then_not_bad (rows_of_kind kind rows)
    (λ first. rows_of_kinds kinds rows >>= λ others. Ok (first ++ others))
    (rows_not_bad kind (names_of (kind_number kind) rows) rows orderly
    (names_there rows kind (keys rows) (keys_there rows)))
    (λ first e.
    then_not_bad (rows_of_kinds kinds rows) (λ others. Ok (first ++ others))
    (kinds_not_bad kinds rows orderly) (λ others f. ok_not_bad _ (first ++ others) refl))

-- the list over orderly rows
pub listed_not_bad : (rows : Rows) → AreOrderly rows → IsNotBad (listed_of rows)
listed_not_bad rows orderly = kinds_not_bad all_kinds rows orderly
