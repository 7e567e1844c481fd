use Rattle.std.proofs.Common.{subst, sym, ◌∙◌, ◌≡◌}
use Rattle.mb_rings.proofs.SearchSteps.{finds-none, finds-same}
use Rattle.mb_rings.proofs.expand.take_step.Goals as goal
use Rattle.mb_tables.proofs.OneStep.{moved-from_one, moved-length, moved-one}
use Rattle.mb_tables.specs.Step.{Moved}

pub returns-then-not-apply-clause-found : goal.returns-then-not-apply-clause-found
returns-then-not-apply-clause-found c =
    finds-none (Moved c.args.sign c.args.table.now c.args.z.now) c.args.visited.now
    c.args.next.now.items (λ v h fits. absurd (c.if-not-apply.ensures.refused v h fits))

pub take_back-requires : goal.take_back-requires
take_back-requires c = record {
  cells =
      moved-length c.args.sign c.args.table.now c.args.z.now c.apply.new.self
      c.if-not-apply.ensures.moved ∙ c.requires.width;
  made = (c.args.table.now, c.if-not-apply.ensures.sound, c.if-not-apply.ensures.moved);
}

pub returns-clause-found : goal.returns-clause-found
returns-clause-found c =
    finds-same (λ v. v ≡ c.apply.new.self) (Moved c.args.sign c.args.table.now c.args.z.now)
    c.args.visited.now c.keep_new.new.visited c.args.next.now.items c.keep_new.new.next.items
    (λ v e. subst (Moved c.args.sign c.args.table.now c.args.z.now) (sym e)
    c.if-not-apply.ensures.moved)
    (λ v h. moved-one c.args.sign c.args.table.now c.args.z.now c.apply.new.self v
    c.if-not-apply.ensures.moved h)
    c.in_ok-keep_new.ensures.found

pub returns-clause-back : goal.returns-clause-back
returns-clause-back c =
    moved-from_one c.args.sign c.take_back.new.self c.args.table.now c.args.z.now c.apply.new.self
    c.take_back.ensures c.if-not-apply.ensures.moved
