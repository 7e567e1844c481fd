use Rattle.std.proofs.Common.{List, ap, arith, get_or, refl, subst, sym, ℕ, ◌++◌, ◌∙◌, ◌≡◌, ◌≢◌, ◌⊎◌}
use Rattle.mb_claims.proofs.Refilling.{refills_more, refills_none, told_stays}
use Rattle.mb_claims.specs.declared.views.Note.{Note}
use Rattle.mb_claims.specs.declared.views.RootView.{RootView}
use Rattle.mb_claims.specs.loops.Stored.{IsTold}
use Rattle.mb_tables.proofs.ListLaws.{In-left}
use Rattle.mb_tables.specs.Lists.{In}
use Rattle.mb_claims.proofs.shards.Shards.refill.Goals as goal

pub loop-place-init : goal.loop-place-init
loop-place-init c = (
  c.requires.pass_ours,
  refl,
  refills_none c.args.self.now.sizes c.args.old c.args.pass.knows c.requires.won,
)

pub loop-place-preserved : goal.loop-place-preserved
loop-place-preserved c =
    let word : c.word.result ≡ get_or c.args.old c.loop-place.place 0 = c.word.ensures in (
      c.claim_word.ensures.ours,
      c.claim_word.ensures.number ∙ c.loop-place.invariant.1,
      refills_more c.args.self.now.sizes c.args.old c.loop-place.pass.knows
          c.claim_word.new.pass.knows c.loop-place.place (omega arith) c.claim_word.ensures.notes
          (subst (λ (w : ℕ). (key : ℕ) → In key c.claim_word.new.pass.knows.won →
          In key c.loop-place.pass.knows.won ⊎ ((key ≡ w) × (w ≢ 0))) word c.claim_word.ensures.won)
          (subst (λ (w : ℕ). w ≢ 0 →
          IsTold c.args.self.now.sizes w c.claim_word.new.pass.knows.notes)
          word c.claim_word.ensures.told)
          c.loop-place.invariant.2,
    )

pub returns-clause-told : goal.returns-clause-told
returns-clause-told c =
    λ place key holds.
    let told =
    (c.loop-place.invariant.2).told place key (let w = holds.within in omega arith) holds in
    let notes : c.gather.new.root.knows.notes
    ≡ c.loop-place.pass.knows.notes ++ c.args.root.now.knows.notes =
    ap (λ (r : RootView). r.notes) c.gather.ensures.gathered in
    told_stays c.args.self.now.sizes key c.loop-place.pass.knows.notes c.gather.new.root.knows.notes
    (λ n i. subst (λ (l : List Note). In n l) (sym notes)
    (In-left n c.loop-place.pass.knows.notes c.args.root.now.knows.notes i)) told
