use Rattle.std.proofs.Common.{◌∙◌}
use Rattle.mb_paths.proofs.WayBack.{makes-not}
use Rattle.mb_paths.proofs.way_back.makes.Goals as goal
use Rattle.mb_tables.proofs.OneStep.{moved-from_one, moved-length}

pub returns-then-not-apply-clause-no : goal.returns-then-not-apply-clause-no
returns-then-not-apply-clause-no c h =
    c.if-not-apply.ensures.refused c.args.to.now h (c.len-counts.ensures.sound).fits

pub take_back-requires-clause-cells : goal.take_back-requires-clause-cells
take_back-requires-clause-cells c =
    moved-length c.args.sign c.args.from.now c.args.z.now c.apply.new.self
    c.if-not-apply.ensures.moved ∙ c.requires

pub returns-clause-no : goal.returns-clause-no
returns-clause-no c =
    makes-not c.args.sign c.args.from.now c.args.z.now c.apply.new.self c.args.to.now
    c.if-not-apply.ensures.moved c.eq-same.result c.eq-same.ensures

pub returns-clause-back : goal.returns-clause-back
returns-clause-back c =
    moved-from_one c.args.sign c.take_back.new.self c.args.from.now c.args.z.now c.apply.new.self
    c.take_back.ensures c.if-not-apply.ensures.moved
