use Rattle.std.proofs.Common.{arith, rules, ◌∙◌}
use Rattle.mb_walk.proofs.MixedCounts.{mixed-end, mixed-more}
use Rattle.mb_walk.specs.Owned.{mixed}
use Rattle.mb_walk.proofs.owner.mixed.Goals as goal

pub loop-cell-preserved : goal.loop-cell-preserved
loop-cell-preserved c =
    mixed-more c.loop-cell.number c.loop-cell.cell c.from.result c.as_slice-count-items.result.now
    (omega arith) (search rules)
    ∙ c.loop-cell.invariant

pub returns : goal.returns
returns c =
    mixed-end c.loop-cell.number c.loop-cell.cell (mixed 0 c.args.table.now)
    c.as_slice-count-items.result.now (omega arith) c.loop-cell.invariant
