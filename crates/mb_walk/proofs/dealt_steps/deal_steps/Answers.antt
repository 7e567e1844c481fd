use Rattle.std.proofs.Common.{arith, refl, subst, ◌∙◌}
use Rattle.mb_rings.proofs.PlacesBelow.{get-there}
use Rattle.mb_tables.specs.Step.{Moved}
use Rattle.mb_tables.specs.declared.sign.Sign.TheVariants.{Minus, Plus}
use Rattle.mb_walk.proofs.DealSteps.{dealt-all, dealt-no_move, dealt-step}
use Rattle.mb_walk.specs.loops.Piles.{Deals, seen_by}
use Rattle.mb_walk.proofs.dealt_steps.deal_steps.Goals as goal

pub loop-k-init : goal.loop-k-init
loop-k-init c = (
  c.requires.ours,
  c.requires.ready,
  refl,
  dealt-no_move c.args.room (seen_by c.args.owners.now) c.as_slice-z-items.result.now
      c.args.table.now c.args.dealer.now,
)

pub loop-k-preserved : goal.loop-k-preserved
loop-k-preserved c = (
  c.deal_step-in-loop-k.ensures.ours,
  c.deal_step-in-loop-k.ensures.ready,
  c.deal_step-in-loop-k.ensures.back ∙ c.deal_step.ensures.back ∙ c.loop-k.invariant.2,
  dealt-step c.args.room (seen_by c.args.owners.now) c.as_slice-z-items.result.now c.loop-k.k
      c.z-item.result c.args.table.now
      (get-there c.as_slice-z-items.result.now c.loop-k.k c.z-item.result (omega arith) c.z-item.is)
      c.args.dealer.now c.loop-k.dealer c.deal_step.new.dealer c.deal_step-in-loop-k.new.dealer
      c.loop-k.invariant.3
      (subst (λ t. Deals c.args.room (seen_by c.args.owners.now) (Moved Plus t c.z-item.result)
      c.loop-k.dealer c.deal_step.new.dealer) c.loop-k.invariant.2 c.deal_step.ensures.dealt)
      (subst (λ t. Deals c.args.room (seen_by c.args.owners.now) (Moved Minus t c.z-item.result)
      c.deal_step.new.dealer c.deal_step-in-loop-k.new.dealer)
      (c.deal_step.ensures.back ∙ c.loop-k.invariant.2) c.deal_step-in-loop-k.ensures.dealt),
)

pub returns-clause-dealt : goal.returns-clause-dealt
returns-clause-dealt c =
    dealt-all c.args.room (seen_by c.args.owners.now) c.args.moves.now.rows
    c.as_slice-z-items.result.now c.loop-k.k c.args.table.now c.args.dealer.now c.loop-k.dealer
    c.as_slice-z-items.ensures.moves (omega arith) c.loop-k.invariant.3
