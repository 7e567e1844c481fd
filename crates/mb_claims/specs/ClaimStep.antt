-- The kinds of step on words and views: make, split, won, met, gather. Each changes one word at
-- most and the view of whoever makes it; a gathering spends the view of the pass.
use Rattle.std.specs.List.{filter}
use Rattle.std.specs.Prelude.{List, [], if◌then◌else◌, not, slice_index, suc, sum, ℕ, ◌++◌, ◌<◌, ◌==◌, ◌∷◌, ◌≡◌, ◌≢◌}
use Rattle.atomic_table.specs.Table.{Me, Step}
use Rattle.mb_claims.specs.Closed.{ClosesAll}
use Rattle.mb_claims.specs.Notes.{IsTaken, note}
use Rattle.mb_claims.specs.Probe.{probe, shard_of}
use Rattle.mb_claims.specs.declared.views.PassView.{PassView}
use Rattle.mb_claims.specs.declared.views.RootView.{RootView}
use Rattle.mb_claims.specs.declared.views.View.{View}
use Rattle.mb_claims.specs.declared.views.View.TheVariants.{OfPass, OfRoot, Spent}

-- make: the root's view over words that are all 0
abbrev pub new_root : List ℕ → View
new_root sizes = OfRoot (record { opened = []; gathered = []; notes = []; sizes = sizes })

-- a pass number that isn't among the open ones
abbrev pub fresh : List ℕ → ℕ
fresh opened = suc (sum opened)

-- split: the root opens a pass
abbrev pub opens : RootView → RootView
opens root = record root { opened = fresh root.opened ∷ root.opened }

-- split: the new pass has its number and the sizes of the shards, and nothing else
abbrev pub begins : RootView → PassView
begins root = record { number = fresh root.opened; won = []; notes = []; sizes = root.sizes }

-- the place is the next one of the key's probe path: the pass has notes of other keys at every
-- earlier one; a won step is made only there
pub record IsNext (sizes : List ℕ) (pass : PassView) (key place : ℕ) : Type 0 where
  pub some_key : key ≢ 0
  pub steps : ℕ
  pub short : steps < slice_index sizes (shard_of sizes key)
  pub there : place ≡ probe sizes key steps
  pub taken : (before : ℕ) → before < steps → IsTaken pass.notes key (probe sizes key before)

-- won: the key joins the won ones, and its place is noted
abbrev pub won : PassView → ℕ → ℕ → PassView
won pass place key =
    record pass { won = key ∷ pass.won; notes = note place key ∷ pass.notes }

-- met: the key that was read is noted
abbrev pub met : PassView → ℕ → ℕ → PassView
met pass place found = record pass { notes = note place found ∷ pass.notes }

-- a compare-and-exchange from 0 to the key, which finds this number
abbrev pub tried : PassView → ℕ → ℕ → ℕ → PassView
tried pass place key found = if found == 0 then won pass place key else met pass place found

-- gather: the root takes over the won keys and the notes, and the number is closed
abbrev pub gathers : RootView → PassView → RootView
gathers root pass = record root {
  opened = filter (λ number. not (number == pass.number)) root.opened;
  gathered = pass.won ++ root.gathered;
  notes = pass.notes ++ root.notes;
}

-- the root's view after a split
abbrev pub opened_root : View → View
opened_root (OfRoot root) = OfRoot (opens root)
opened_root view = view

-- the view of the pass that it opens
abbrev pub opened_pass : View → View
opened_pass (OfRoot root) = OfPass (begins root)
opened_pass _ = Spent

-- the root's view after a gathering
abbrev pub gathered_root : View → View → View
gathered_root (OfRoot root) (OfPass pass) = OfRoot (gathers root pass)
gathered_root view _ = view

-- won or met: a compare-and-exchange by a pass
abbrev pub tries : {S : Type 0} → Step S → Me S View → ℕ → Me S View → Type 0
tries step me found after =
    (pass : PassView) → me.0 ≡ OfPass pass →
    after ≡ (OfPass (tried pass step.word step.second found), me.1)

-- as it gathers, the root loads word 0, which changes nothing and tells it that it has gathered all
-- that it knows, where no pass is open
abbrev pub looks : {S : Type 0} → Step S → Me S View → ℕ → Me S View → Type 0
looks step me found after =
    (after ≡ me) × ((root : RootView) → me.0 ≡ OfRoot root → ClosesAll root)
