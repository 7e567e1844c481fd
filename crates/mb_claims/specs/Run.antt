-- Words and views as a state machine: the steps of any number of passes, one after the other, in
-- any order (interleaving semantics).
use Rattle.std.specs.Prelude.{List, [], length, replicate, slice_index, slice_set, suc, sum, zero, ℕ, ◌++◌, ◌<◌, ◌∷◌, ◌≡◌, ◌≢◌}
use Rattle.mb_claims.specs.ClaimRule.{Knows}
use Rattle.mb_claims.specs.ClaimStep.{IsNext, begins, gathers, met, new_root, opens, won}
use Rattle.mb_claims.specs.declared.views.PassView.{PassView}
use Rattle.mb_claims.specs.declared.views.RootView.{RootView}
use Rattle.mb_claims.specs.declared.views.View.{View}
use Rattle.mb_claims.specs.declared.views.View.TheVariants.{OfPass, OfRoot, Spent}

-- the words, and the view of each seat
pub record State : Type 0 where
  pub words : List ℕ
  pub views : List View

-- make: all words are 0, and the root alone has a seat
abbrev pub made : List ℕ → State
made sizes = record { words = replicate (sum sizes) 0; views = new_root sizes ∷ [] }

-- split: the root opens a pass, which gets a seat
pub record IsSplit (before after : State) : Type 0 where
  pub seat : ℕ
  pub root : RootView
  pub knows : Knows before.views seat (OfRoot root)
  pub is : after ≡ record before {
    views = slice_set before.views seat (OfRoot (opens root)) ++ OfPass (begins root) ∷ [];
  }

-- won: a pass puts the key into an empty word, the next of the key's probe path
pub record IsWon (sizes : List ℕ) (key : ℕ) (before after : State) : Type 0 where
  pub seat : ℕ
  pub pass : PassView
  pub place : ℕ
  pub knows : Knows before.views seat (OfPass pass)
  pub next : IsNext sizes pass key place
  pub empty : slice_index before.words place ≡ 0
  pub is : after ≡ record {
    words = slice_set before.words place key;
    views = slice_set before.views seat (OfPass (won pass place key));
  }

-- met: a pass reads a key
pub record IsMet (before after : State) : Type 0 where
  pub seat : ℕ
  pub pass : PassView
  pub place : ℕ
  pub knows : Knows before.views seat (OfPass pass)
  pub within : place < length before.words
  pub full : slice_index before.words place ≢ 0
  pub is : after ≡ record before {
    views = slice_set before.views seat (OfPass (met pass place (slice_index before.words place)));
  }

-- gather: the root takes over a pass, whose view is spent
pub record IsGathered (before after : State) : Type 0 where
  pub seat : ℕ
  pub root : RootView
  pub other : ℕ
  pub pass : PassView
  pub apart : other ≢ seat
  pub root_knows : Knows before.views seat (OfRoot root)
  pub pass_knows : Knows before.views other (OfPass pass)
  pub is : after ≡ record before {
    views = slice_set (slice_set before.views seat (OfRoot (gathers root pass))) other Spent;
  }

-- one step of some seat
pub data IsStep (sizes : List ℕ) (before after : State) : Type 0 where
  splits : IsSplit before after → IsStep sizes before after
  wins : (key : ℕ) → IsWon sizes key before after → IsStep sizes before after
  meets : IsMet before after → IsStep sizes before after
  gathers_one : IsGathered before after → IsStep sizes before after

-- so many steps lead from new words to this state
abbrev pub IsRun : List ℕ → ℕ → State → Type 0
IsRun sizes zero state = state ≡ made sizes
IsRun sizes (suc n) state = (before : State) × IsRun sizes n before × IsStep sizes before state
