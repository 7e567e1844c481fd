use Rattle.std.proofs.Common.{ap, arith, not, sym, ◌∙◌}
use Rattle.mb_matrix.proofs.FirstFound.{find-None_from, find-Some_from}
use Rattle.mb_matrix.specs.Measure.{is_group_row}
use Rattle.mb_matrix.proofs.scale_tests.first_bad_row.Goals as goal

pub returns-then-not-is_group_row : goal.returns-then-not-is_group_row
returns-then-not-is_group_row c =
    sym (find-Some_from (λ n. not (is_group_row c.args.matrix.now n)) c.args.rows.now
    c.loop-n.n-index 0 (omega arith) c.loop-n.invariant
    (ap not (sym c.is_group_row.ensures) ∙ cc))

pub returns : goal.returns
returns c =
    sym (find-None_from (λ n. not (is_group_row c.args.matrix.now n)) c.args.rows.now 0
    (λ k l. c.loop-n.invariant k (omega arith)))
