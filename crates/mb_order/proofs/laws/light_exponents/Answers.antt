use Rattle.std.proofs.Common.{sym, ◌∙◌}
use Rattle.mb_order.proofs.CellWeights.{light-exponents}
use Rattle.mb_order.proofs.WeightLaws.{symbols-fit, symbols-length}
use Rattle.mb_order.proofs.laws.light_exponents.Goals as goal
use Rattle.mb_order.specs.Weight.{symbols_of}

pub returns : goal.returns
returns c matrix design m wide =
    light-exponents matrix.rows (symbols_of matrix) m 65535
    (symbols-fit matrix.rows matrix.columns design.each)
    (wide ∙ sym (symbols-length matrix.rows matrix.columns))
