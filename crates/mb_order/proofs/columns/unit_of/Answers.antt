use Rattle.std.proofs.Common.{ap, slice_set, ◌∙◌}
use Rattle.mb_order.proofs.ZerosAndUnits.{set-zeros}
use Rattle.mb_order.proofs.columns.unit_of.Goals as goal

pub returns-clause-unit : goal.returns-clause-unit
returns-clause-unit c = ap (λ u. slice_set u c.args.place 1) c.in_ok-unit.ensures.zeros
    ∙ set-zeros c.args.width c.args.place c.requires
