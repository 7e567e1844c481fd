use Rattle.std.proofs.Common.{arith, sym, ◌∙◌}
use Rattle.std.proofs.lemmas.List.Sums.{position_or_len_is}
use Rattle.mb_matrix.specs.Measure.{has_cell}
use Rattle.mb_matrix.proofs.measure.group_in.Goals as goal

pub returns-then-has_cell : goal.returns-then-has_cell
returns-then-has_cell c =
    sym (position_or_len_is (has_cell c.args.matrix.now c.args.cell) c.args.rows.now
    c.loop-place.place 0 (omega arith) c.loop-place.invariant
    (λ _. sym c.has_cell.ensures ∙ c.if-has_cell.true))

pub returns : goal.returns
returns c =
    sym (position_or_len_is (has_cell c.args.matrix.now c.args.cell) c.args.rows.now _ 0
    (omega arith) (λ k l. c.loop-place.invariant k (omega arith))
    (λ l. absurd (omega arith)))
