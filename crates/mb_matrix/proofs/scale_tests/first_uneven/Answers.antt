use Rattle.std.proofs.Common.{[], arith, not, sum, sym, ◌==◌}
use Rattle.mb_matrix.proofs.FirstFaults.{position-None_from, position-Some_from}
use Rattle.mb_matrix.specs.Matrix.{column_at}
use Rattle.mb_matrix.proofs.scale_tests.first_uneven.Goals as goal

pub returns-then-column_sum-first : goal.returns-then-column_sum-first
returns-then-column_sum-first c =
    sym (position-Some_from (λ column. not (sum column == sum (column_at c.args.matrix.now 0)))
    c.args.matrix.now.columns c.loop-cell.cell [] (omega arith)
    c.loop-cell.invariant
    (grind arith))

pub returns : goal.returns
returns c =
    sym (position-None_from (λ column. not (sum column == sum (column_at c.args.matrix.now 0)))
    c.args.matrix.now.columns []
    (λ k l. c.loop-cell.invariant k (omega arith)))
