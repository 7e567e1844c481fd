use Rattle.mb_kinds.proofs.WrittenLines.{model_written}
use Rattle.mb_matrix.specs.Scheme.{scheme_of}
use Rattle.mb_kinds.proofs.record_written.write_model.Goals as goal

pub returns : goal.returns
returns c =
    model_written (record { dataset = c.args.dataset.now; model = c.args.model.now })
    c.matrix-matrix.result.now c.measure-measure.result.now (scheme_of c.scale.result.now)
    c.rows.result c.cols.result c.bases.result.now c.new-out.result.items
    c.push_head.new.out.items c.push_rows.new.out.items c.push_scale.new.out.items
    c.push_word_line.new.out.items c.push_text.new.out.items c.matrix-matrix.ensures.matrix
    c.measure-measure.ensures.measure c.rows.ensures.rows c.cols.ensures.cells c.scale.ensures
    c.bases.ensures.bases c.new-out.ensures.items c.in_ok-push_head.ensures
    c.in_ok-push_rows.ensures c.in_ok-push_scale.ensures c.in_ok-push_word_line.ensures
    c.in_ok-push_text.ensures
