use Rattle.std.proofs.Common.{[], ap, arith, map, sym, ◌++◌, ◌∙◌, ◌∷◌}
use Rattle.std.proofs.lemmas.List.FromFn.{map-range_with_len_more}
use Rattle.std.specs.List.{range_with_len}
use Rattle.mb_matrix.specs.Measure.{group_at}
use Rattle.mb_matrix.specs.Scheme.{scheme_of}
use Rattle.mb_matrix.proofs.measure.groups_of.Goals as goal

pub loop-cell-preserved : goal.loop-cell-preserved
loop-cell-preserved c =
    let at_cell = group_at c.args.matrix.now (scheme_of c.args.scale.now) in
    c.in_ok-push.ensures.items
    ∙ ap (λ groups. groups ++ c.group_of.result ∷ []) c.loop-cell.invariant
    ∙ ap (λ group. map at_cell (range_with_len 0 c.loop-cell.cell) ++ group ∷ [])
    c.group_of.ensures
    ∙ sym (map-range_with_len_more at_cell 0 c.loop-cell.cell c.loop-cell.cell (omega arith))
