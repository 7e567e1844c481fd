-- The first claim.
use Rattle.std.proofs.Common.{List, [], ap, arith, slice_index, subst, sym, ℕ, ◌++◌, ◌+◌, ◌∙◌, ◌∷◌, ◌≡◌, ◌≤◌}
use Rattle.mb_claims.specs.ClaimStep.{begins, gathers}
use Rattle.mb_claims.specs.Claims.{Answers}
use Rattle.mb_claims.specs.Closed.{IsClosed}
use Rattle.mb_claims.specs.Notes.{note}
use Rattle.mb_claims.specs.Probe.{shard_of, start_of}
use Rattle.mb_claims.specs.declared.claim.Claim.{Claim}
use Rattle.mb_claims.specs.declared.claim.Claim.TheVariants.{Full, New, Seen}
use Rattle.mb_claims.specs.declared.views.PassView.{PassView}
use Rattle.mb_claims.specs.declared.views.RootView.{RootView}
use Rattle.mb_tables.proofs.ListLaws.{In-left}
use Rattle.mb_tables.specs.Lists.{In}

module _ (sizes : List ℕ) (key : ℕ) (before after : PassView)
    (first old new : RootView) (begun : before ≡ begins first) (empty : old.gathered ≡ [])
    (is : new ≡ gathers old after)
    (closed : IsClosed new) (some : 1 ≤ slice_index sizes (shard_of sizes key)) where
  -- nothing is gathered where nothing was won
  nothing : after.won ≡ before.won → new.gathered ≡ []
  nothing e =
      ap (λ (r : RootView). r.gathered) is
      ∙ ap (λ l. l ++ old.gathered) (e ∙ ap (λ (p : PassView). p.won) begun)
      ∙ empty

  -- so nothing is noted then
  not-noted : after.won ≡ before.won → (place k : ℕ) → In (note place k) after.notes → ⊥
  unfolding In
  not-noted e place k i =
      subst (λ list. In k list) (nothing e)
      (closed.gathered (note place k)
      (subst (λ (r : RootView). In (note place k) r.notes) (sym is)
      (In-left (note place k) after.notes old.notes i)))

  -- the first key that is claimed is won, since no key is stored
  pub first-claimed : (answer : Claim) → Answers sizes key before after answer →
      new.gathered ≡ key ∷ []
  first-claimed New a =
      ap (λ (r : RootView). r.gathered) is
      ∙ ap (λ l. l ++ old.gathered)
      (a.0 ∙ ap (λ l. key ∷ l) (ap (λ (p : PassView). p.won) begun))
      ∙ ap (λ l. key ∷ l) empty
  first-claimed Seen a = let n = a.1 in absurd (not-noted a.0 n.0 key n.1)
  first-claimed (Full shard) a =
      let taken = a.2 0 (omega arith) in
      absurd (not-noted a.0 (start_of sizes (shard_of sizes key) + 0) taken.0 taken.1)
