-- What a view of the set says: the root's, a pass's, or a spent one.
use Rattle.std.specs.Prelude.{List, [], ℕ, ◌≡◌}
use Rattle.mb_claims.specs.declared.views.Note.{Note}
use Rattle.mb_claims.specs.declared.views.PassView.{PassView}
use Rattle.mb_claims.specs.declared.views.RootView.{RootView}
use Rattle.mb_claims.specs.declared.views.View.{View}
use Rattle.mb_claims.specs.declared.views.View.TheVariants.{OfPass, OfRoot, Spent}

-- the keys that the view answers for: those gathered or won
abbrev pub keys_of : View → List ℕ
keys_of (OfRoot root) = root.gathered
keys_of (OfPass pass) = pass.won
keys_of Spent = []

-- the notes of the view
abbrev pub notes_of : View → List Note
notes_of (OfRoot root) = root.notes
notes_of (OfPass pass) = pass.notes
notes_of Spent = []

-- a view that isn't spent has these sizes of the shards
abbrev pub HasSizes : List ℕ → View → Type 0
HasSizes sizes (OfRoot root) = root.sizes ≡ sizes
HasSizes sizes (OfPass pass) = pass.sizes ≡ sizes
HasSizes sizes Spent = Unit {0}

-- the root's view, of a view that is one
abbrev pub root_of : View → RootView
root_of (OfRoot root) = root
root_of _ = record { opened = []; gathered = []; notes = []; sizes = [] }

-- the pass's view, of a view that is one
abbrev pub pass_of : View → PassView
pass_of (OfPass pass) = pass
pass_of _ = record { number = 0; won = []; notes = []; sizes = [] }
