-- A record that was accepted may be added again.
use Rattle.std.proofs.Common.{Err, List, None, Ok, Option, Some, ap, refl, ℕ, ◌∙◌, ◌≡◌}
use Rattle.std.specs.FinMap.{get, insert}
use Rattle.std.specs.Option.{ok_or}
use Rattle.std.specs.Prelude.{IsSome, if◌then◌else◌}
use Rattle.mb_outside.specs.Rows.{Rows}
use Rattle.mb_registry.proofs.OrderlySteps.{refers_there, there_after}
use Rattle.mb_registry.proofs.RowKeys.{inserted}
use Rattle.mb_registry.specs.Adding.{added_of, beside_kept, refers, rows_added}
use Rattle.mb_registry.specs.Faults.{Answer}
use Rattle.mb_registry.specs.Kinds.{key_of}
use Rattle.mb_registry.specs.Orderly.{IsThere}
use Rattle.mb_registry.specs.declared.adding.Added.{Added}
use Rattle.mb_registry.specs.declared.adding.Added.TheVariants.{Stored, Unchanged}
use Rattle.mb_registry.specs.declared.fault.RegistryFault.TheVariants.{Conflict, Unknown}
use Rattle.mb_registry.specs.declared.kinds.Kind.{Kind}
use Rattle.mb_tables.specs.Answers.{◌>>=◌}
use Rattle.mb_text.proofs.PieceCases.{same_text}
use Rattle.mb_text.proofs.RecordSteps.{stepped}

-- a reference that is there is found
there_refers : (reference : Option (Kind × List ℕ)) (rows : Rows) → IsThere reference rows →
    refers reference rows ≡ Ok (tt {0})
there_refers None rows there = refl
there_refers (Some reference) rows there = by (get rows (key_of reference.0 reference.1)) there
  where
    by : (found : Option (List ℕ)) → IsSome found →
        (ok_or found (Unknown reference.0 reference.1) >>= λ body. Ok (tt {0})) ≡ Ok (tt {0})
    by None there = absurd (cc there)
    by (Some body) there = refl

-- a body that is kept is left
beside_itself : (body : List ℕ) → beside_kept body (Some body) ≡ Ok Unchanged
beside_itself body = ap (λ b. if b then Ok Unchanged else Err (Conflict body)) (same_text body)

-- a record whose body is kept, and whose reference is there
pub kept_unchanged : (kind : Kind) (name : List ℕ) (reference : Option (Kind × List ℕ))
    (body : List ℕ) (rows : Rows) → IsThere reference rows →
    get rows (key_of kind name) ≡ Some body →
    added_of kind name reference body rows ≡ Ok Unchanged
kept_unchanged kind name reference body rows there kept =
    ap (λ (r : Answer (Unit {0})). r >>= λ there. beside_kept body (get rows (key_of kind name)))
    (there_refers reference rows there)
    ∙ ap (beside_kept body) kept ∙ beside_itself body

-- a record that was added is added again
pub again_unchanged : (kind : Kind) (name : List ℕ) (reference : Option (Kind × List ℕ))
    (body : List ℕ) (rows : Rows) (added : Added) →
    added_of kind name reference body rows ≡ Ok added →
    added_of kind name reference body (rows_added kind name body added rows) ≡ Ok Unchanged
again_unchanged kind name reference body rows Unchanged e = e
again_unchanged kind name reference body rows Stored e =
    let found =
    stepped (refers reference rows) (λ there. beside_kept body (get rows (key_of kind name)))
    Stored e in
    kept_unchanged kind name reference body (insert rows (key_of kind name) body)
    (there_after reference rows (key_of kind name) body
    (refers_there reference rows found.0 found.1))
    (inserted rows (key_of kind name) body)
