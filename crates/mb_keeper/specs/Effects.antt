-- What the statements show of the rows, and what they make of them.
use Rattle.std.specs.FinMap.{get, insert, remove}
use Rattle.std.specs.Prelude.{IfSome, List, None, OnErr, OnOk, Option, Result, Some, [], ℕ, ◌≤◌, ◌∷◌, ◌≡◌}
use Rattle.mb_outside.specs.Rows.{Key, Rows, rows_of}
use Rattle.mb_outside.specs.Told.{WhereTold}
use Rattle.mb_outside.specs.declared.keeper.Row.{Row as Listed}
use Rattle.sqlite.specs.Order.{Row}
use Rattle.sqlite.specs.State.{HasCleanDisk, KeepsCommit, State}
use Rattle.sqlite.specs.declared.error.Error.{Error}
use Rattle.sqlite.specs.declared.types.Value.TheVariants.{Blob, Text}
use Rattle.sqlite_trees.specs.View.{doubt}
use Rattle.mb_keeper.specs.Known.{Knows, told}

-- a call on a database that is known leaves one, and this is so of the rows where they are told at
-- its return
pub record Keeps (old new : State) (Fact : Rows → Rows → Type 0) : Type 0 where
  pub known : Knows new
  pub rows : WhereTold (told old) (told new) Fact

-- within a transaction nothing is committed
pub record IsWithin (old new : State) : Type 0 where
  pub falls : doubt old.is_clean ≤ doubt new.is_clean
  pub kept : HasCleanDisk new → KeepsCommit old new

-- no row that is told has the key
abbrev pub Lacks : State → Key → Type 0
Lacks s key = IfSome (told s) (λ rows. get rows key ≡ None)

-- what the query of a body shows, where the map has this under the key
abbrev pub body_shown : Option (List ℕ) → List Row
body_shown None = []
body_shown (Some body) = (Blob body ∷ []) ∷ []

-- what the query of names shows of a name
abbrev pub name_shown : List ℕ → Row
name_shown name = Text name ∷ []

-- an insertion adds the row, or nothing
abbrev pub Inserted : Key → List ℕ → {X : Type 0} → Result X Error → Rows → Rows → Type 0
Inserted key body r before after =
    OnOk r (after ≡ insert before key body) × OnErr r (after ≡ before)

-- a deletion takes the row out, or nothing
abbrev pub Deleted : Key → {X : Type 0} → Result X Error → Rows → Rows → Type 0
Deleted key r before after = OnOk r (after ≡ remove before key) × OnErr r (after ≡ before)

-- a replacement makes the rows those of the list, or changes nothing
abbrev pub Replaced : List Listed → Result (Unit {0}) Error → Rows → Rows → Type 0
Replaced all r before after = OnOk r (after ≡ rows_of all) × OnErr r (after ≡ before)
