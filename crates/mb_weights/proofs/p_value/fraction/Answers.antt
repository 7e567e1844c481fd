use Rattle.std.proofs.Common.{length, ◌≡◌}
use Rattle.mb_weights.proofs.SummedParts.{listed-passes, sums-ascend}
use Rattle.mb_weights.proofs.SummedTables.{of_listed}
use Rattle.mb_weights.proofs.p_value.fraction.Goals as goal
use Rattle.mb_weights.specs.PValue.{tables_in}

pub weight_by-requires-clause-table : goal.weight_by-requires-clause-table
weight_by-requires-clause-table c =
    of_listed (λ table. length table ≡ length c.args.matrix.now.columns)
    (tables_in c.args.rings.now) c.args.observed.now c.requires.tables c.requires.listed

pub returns-in_err-most-clause-none : goal.returns-in_err-most-clause-none
returns-in_err-most-clause-none c =
    rw c.from_residual.ensures
    (listed-passes c.args.measure.now (tables_in c.args.rings.now) c.args.observed.now
    c.requires.listed c.in_err-most.ensures.exact)

pub returns-clause-order : goal.returns-clause-order
returns-clause-order c =
    let most = c.in_ok-most.ensures.exact.1 in
    let ascend =
    sums-ascend c.args.measure.now (tables_in c.args.rings.now) c.args.observed.now
    c.in_ok-most.most c.in_ok-sums.sums c.requires.listed most c.in_ok-sums.ensures in
    (c.in_ok-most.ensures.positive, ascend.0, ascend.1, ascend.2)
