use Rattle.std.proofs.Common.{ap, get_or, ◌+◌, ◌∙◌, sym}
use Rattle.mb_matrix.proofs.MarginLaws.{at-margins}
use Rattle.mb_matrix.specs.Matrix.{margins_of}
use Rattle.mb_order.proofs.WeightLaws.{weight}
use Rattle.mb_order.proofs.monomial.Monomial.weight.Goals as goal
use Rattle.mb_order.specs.Weight.{weights}
use Rattle.mb_tables.proofs.VectorLaws.{at-plus}
use Rattle.mb_tables.specs.Margin.{margin}
use Rattle.mb_tables.specs.Vectors.{at}

pub returns : goal.returns
returns c =
    let own = c.split_at.result.0.now in
    let cells = c.split_at.result.1.now in
    let matrix = c.args.matrix.now in
    let row = c.args.row in
    let whole = c.split_at.ensures.by_index.0 in
    let list = c.as_slice.ensures.exponents in
    let s = c.rows.ensures.sound in
    ap (λ n. n + c.cells_weight.result) c.from.ensures
    ∙ ap (λ n. get_or own row 0 + n)
    (c.cells_weight.ensures.weight ∙ ap (λ entries. margin entries cells) c.row.ensures.entries
    ∙ sym (at-margins matrix.rows matrix.columns cells row))
    ∙ sym (at-plus own (margins_of matrix cells) row)
    ∙ ap (λ u. at u row)
    (sym (weight matrix.rows matrix.columns own cells s.each
    (c.split_at.ensures.front_len ∙ c.rows.ensures.rows)))
    ∙ ap (λ u. at (weights matrix u) row) (sym whole ∙ list)
