use Rattle.std.proofs.Common.{replicate, rules, ◌∙◌, ◌≡◌}
use Rattle.mb_order.proofs.ZerosAndUnits.{zeros-replicate}
use Rattle.mb_order.proofs.columns.zeros_of.Goals as goal

pub returns-clause-zeros : goal.returns-clause-zeros
returns-clause-zeros c =
    let items : c.in_ok-vec.field-0.items ≡ replicate c.args.width 0 = search rules in
    items ∙ zeros-replicate c.args.width
