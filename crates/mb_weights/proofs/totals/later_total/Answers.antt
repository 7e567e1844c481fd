use Rattle.std.proofs.Common.{arith, ◌+◌}
use Rattle.mb_tables.specs.Vectors.{at}
use Rattle.mb_weights.proofs.GroupTotals.{total_from_small}
use Rattle.mb_weights.proofs.totals.later_total.Goals as goal

pub returns-then-group-lt-KEPT_GROUPS-clause-small :
    goal.returns-then-group-lt-KEPT_GROUPS-clause-small
returns-then-group-lt-KEPT_GROUPS-clause-small c =
    let group = at c.args.groups.now c.args.cell in
    let e = c.requires.totals.each group c.if-group-lt-KEPT_GROUPS.true in
    let f =
    total_from_small group (c.args.cell + 1) c.args.groups.now c.args.counts.now c.requires.cells
    c.requires.counts in
    let few = c.requires.few in
    let cells = c.requires.cells in
    omega (arith, e, f, few, cells)

pub returns-else-group-lt-KEPT_GROUPS-clause-small :
    goal.returns-else-group-lt-KEPT_GROUPS-clause-small
returns-else-group-lt-KEPT_GROUPS-clause-small c =
    let e = c.summed_total.ensures in
    let f =
    total_from_small (at c.args.groups.now c.args.cell) (c.args.cell + 1) c.args.groups.now
    c.args.counts.now c.requires.cells c.requires.counts in
    let few = c.requires.few in
    let cells = c.requires.cells in
    omega (arith, e, f, few, cells)
