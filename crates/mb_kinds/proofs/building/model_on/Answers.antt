use Rattle.std.proofs.Common.{ap, length, sym, ◌∙◌}
use Rattle.mb_kinds.proofs.building.model_on.Goals as goal
use Rattle.mb_matrix.proofs.RowsAndColumns.{length-columns}
use Rattle.mb_matrix.specs.Matrix.{Design}
use Rattle.mb_tables.specs.Rows.{array_of}

pub try_new-requires-2 : goal.try_new-requires-2
try_new-requires-2 c =
    c.requires.base
    ∙ sym (length-columns (array_of c.args.cells c.args.rows c.args.entries.now))
    ∙ ap (λ (m : Design). length m.columns) (sym c.in-Ok.ensures.made)
