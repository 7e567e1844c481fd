use Rattle.std.proofs.Common.{arith, ◌+◌}
use Rattle.mb_tables.specs.Vectors.{at}
use Rattle.mb_weights.proofs.GroupTotals.{total_from_small, totals-passed, totals-taken}
use Rattle.mb_weights.proofs.totals.add_count.Goals as goal

pub overflow_add-totals : goal.overflow_add-totals
overflow_add-totals c =
    let group = at c.args.groups.now c.args.cell in
    let e = c.requires.totals.each group c.if-group-lt-KEPT_GROUPS.true in
    let f =
    total_from_small group (c.args.cell + 1) c.args.groups.now c.args.counts.now c.requires.cells
    c.requires.counts in
    let few = c.requires.few in
    let cells = c.requires.cells in
    let cell = c.requires.cell in
    let small = c.requires.counts c.args.cell 0 (omega arith) in
    let same = c.from.ensures in
    omega (arith, e, f, few, cells, small, same)

pub returns-then-group-lt-KEPT_GROUPS : goal.returns-then-group-lt-KEPT_GROUPS
returns-then-group-lt-KEPT_GROUPS c =
    rw c.from.ensures
    (totals-taken c.args.totals.now c.args.groups.now c.args.counts.now c.args.cell
    c.requires.cell c.requires.cells c.requires.totals c.if-group-lt-KEPT_GROUPS.true)

pub returns-else-group-lt-KEPT_GROUPS : goal.returns-else-group-lt-KEPT_GROUPS
returns-else-group-lt-KEPT_GROUPS c =
    totals-passed c.args.totals.now c.args.groups.now c.args.counts.now c.args.cell
    c.requires.cell c.requires.cells c.requires.totals (omega arith)
