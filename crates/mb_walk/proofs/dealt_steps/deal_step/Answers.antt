use Rattle.std.proofs.Common.{subst, sym, ◌∙◌, ◌≡◌}
use Rattle.mb_tables.proofs.OneStep.{moved-from_one, moved-length, moved-one}
use Rattle.mb_tables.specs.Step.{Moved}
use Rattle.mb_walk.proofs.DealSteps.{deals-same}
use Rattle.mb_walk.specs.loops.Piles.{seen_by}
use Rattle.mb_walk.proofs.dealt_steps.deal_step.Goals as goal

pub take_back-requires-clause-cells : goal.take_back-requires-clause-cells
take_back-requires-clause-cells c =
    moved-length c.args.sign c.args.table.now c.args.z.now c.apply.new.self
    c.if-not-apply.ensures.moved ∙ c.requires.width

pub returns-clause-back : goal.returns-clause-back
returns-clause-back c =
    moved-from_one c.args.sign c.take_back.new.self c.args.table.now c.args.z.now c.apply.new.self
    c.take_back.ensures c.if-not-apply.ensures.moved

pub returns-clause-dealt : goal.returns-clause-dealt
returns-clause-dealt c =
    deals-same c.args.room (seen_by c.args.owners.now) (λ v. v ≡ c.apply.new.self)
    (Moved c.args.sign c.args.table.now c.args.z.now) c.args.dealer.now c.deal.new.dealer
    (λ v e. subst (Moved c.args.sign c.args.table.now c.args.z.now) (sym e)
    c.if-not-apply.ensures.moved)
    (λ v h. moved-one c.args.sign c.args.table.now c.args.z.now c.apply.new.self v
    c.if-not-apply.ensures.moved h)
    c.deal.ensures.dealt
