use Rattle.std.proofs.Common.{arith, refl, ◌∙◌}
use Rattle.mb_rings.specs.Ring.{tables_of}
use Rattle.mb_walk.specs.loops.Piles.{joined}
use Rattle.mb_walk.proofs.OwnerLists.{join-more, kept-taken}
use Rattle.mb_walk.proofs.piles.join.Goals as goal

pub returns-in_err-append-clause-kept : goal.returns-in_err-append-clause-kept
returns-in_err-append-clause-kept c =
    kept-taken c.loop-owner.owners c.loop-owner.owner-index c.owner-item.result _ (omega arith) refl
    ∙ c.loop-owner.invariant.1

pub loop-owner-preserved : goal.loop-owner-preserved
loop-owner-preserved c = (
  join-more c.loop-owner.owners c.loop-owner.owner-index c.owner-item.result _
      c.loop-owner.ring.items c.append.new.self.items (tables_of (joined c.args.owners.now))
      (omega arith) c.loop-owner.invariant.0 c.in_ok-append.ensures.items,
  kept-taken c.loop-owner.owners c.loop-owner.owner-index c.owner-item.result _ (omega arith) refl
      ∙ c.loop-owner.invariant.1,
)
