use Rattle.std.proofs.Common.{arith, ap, inl, inr, length, not, sym, ◌<◌, ◌==◌, ◌∙◌, ◌≡◌, ◌⊎◌}
use Rattle.std.specs.List.{count_by}
use Rattle.mb_matrix.proofs.FirstFound.{position_range-None, position_range-Some}
use Rattle.mb_matrix.specs.Measure.{has_cell}
use Rattle.mb_matrix.proofs.scale_tests.first_uncovered.Goals as goal

pub returns-then-not-is_covered : goal.returns-then-not-is_covered
returns-then-not-is_covered c =
    sym (position_range-Some
    (λ cell. not (count_by (has_cell c.args.matrix.now cell) c.args.rows.now == 1))
    (length c.args.matrix.now.columns) c.loop-cell.cell (omega arith) c.loop-cell.invariant
    (ap not (sym c.is_covered.ensures) ∙ cc))

pub loop-cell-preserved : goal.loop-cell-preserved
loop-cell-preserved c k l =
    let cases : (k < c.loop-cell.cell) ⊎ (k ≡ c.loop-cell.cell) = grind arith in
    elim cases [
      | inl before ↦ c.loop-cell.invariant k before
      | inr same ↦
          ap (λ cell. not (count_by (has_cell c.args.matrix.now cell) c.args.rows.now == 1)) same
          ∙ ap not (sym c.is_covered.ensures) ∙ cc
    ]

pub returns : goal.returns
returns c =
    sym (position_range-None
    (λ cell. not (count_by (has_cell c.args.matrix.now cell) c.args.rows.now == 1))
    (length c.args.matrix.now.columns)
    (λ k l. c.loop-cell.invariant k (omega arith)))
