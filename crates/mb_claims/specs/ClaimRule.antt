-- The rule of words and views: the invariant of the shared state, which holds between any two
-- steps of any threads.
use Rattle.std.specs.List.{sum_by}
use Rattle.std.specs.Prelude.{List, length, sum, ℕ, ◌≡◌, ◌≢◌}
use lib.ListN.{get_elem?}
use mathlib.Core.Option.{some}
use Rattle.mb_claims.specs.Lists.{AreDistinctKeys, occurrences}
use Rattle.mb_claims.specs.Probe.{Holds, IsReached}
use Rattle.mb_claims.specs.View.{HasSizes, keys_of, notes_of}
use Rattle.mb_claims.specs.declared.views.Note.{Note}
use Rattle.mb_claims.specs.declared.views.PassView.{PassView}
use Rattle.mb_claims.specs.declared.views.RootView.{RootView}
use Rattle.mb_claims.specs.declared.views.View.{View}
use Rattle.mb_claims.specs.declared.views.View.TheVariants.{OfPass, OfRoot}
use Rattle.mb_tables.specs.Lists.{In}

-- the seat has the view
abbrev pub Knows : List View → ℕ → View → Type 0
Knows views seat view = get_elem? views seat ≡ some view

-- the sizes of the shards are those of all unspent views, and add up to the number of words
pub record AreSized (sizes words : List ℕ) (views : List View) : Type 0 where
  pub total : length words ≡ sum sizes
  pub shared : (seat : ℕ) (view : View) → Knows views seat view → HasSizes sizes view

-- each note of any view is true of the words
abbrev pub AreNoted : List ℕ → List View → Type 0
AreNoted words views =
    (seat : ℕ) (view : View) → Knows views seat view →
    (note : Note) → In note (notes_of view) → Holds words note.place note.key

-- each stored key stands in its own shard, and no word before it on its probe path is 0
abbrev pub AreReached : List ℕ → List ℕ → Type 0
AreReached sizes words =
    (place key : ℕ) → Holds words place key → IsReached sizes words key place

-- no key is stored twice
abbrev pub AreStoredOnce : List ℕ → Type 0
AreStoredOnce words =
    (key place other : ℕ) → Holds words place key → Holds words other key → place ≡ other

-- what is gathered, and won by unspent passes, are keys; and a key stands among them, all taken
-- together, as often as it stands in the words
pub record AreCounted (words : List ℕ) (views : List View) : Type 0 where
  pub keys : (seat : ℕ) (view : View) → Knows views seat view → In 0 (keys_of view) → ⊥
  pub often :
      (key : ℕ) → key ≢ 0 →
      sum_by (λ view. occurrences key (keys_of view)) views ≡ occurrences key words

-- there is one root; the numbers of open passes are above 0 and distinct; each unspent pass has its
-- number among them, and no two passes have the same
pub record AreOpened (views : List View) : Type 0 where
  pub seat : ℕ
  pub root : RootView
  pub there : Knows views seat (OfRoot root)
  pub only : (other : ℕ) (view : RootView) → Knows views other (OfRoot view) → other ≡ seat
  pub above : In 0 root.opened → ⊥
  pub distinct : AreDistinctKeys root.opened
  pub open_pass :
      (other : ℕ) (pass : PassView) → Knows views other (OfPass pass) → In pass.number root.opened
  pub own :
      (one other : ℕ) (pass second : PassView) →
      Knows views one (OfPass pass) → Knows views other (OfPass second) →
      pass.number ≡ second.number → one ≡ other

-- the rule
pub record IsClaimed (sizes words : List ℕ) (views : List View) : Type 0 where
  pub sized : AreSized sizes words views
  pub noted : AreNoted words views
  pub reached : AreReached sizes words
  pub once : AreStoredOnce words
  pub counted : AreCounted words views
  pub numbered : AreOpened views
