use Rattle.mb_matrix.proofs.FillLaws.{fill-has, fill-only, length-margins}
use Rattle.mb_matrix.specs.Matrix.{margins_of}
use Rattle.mb_matrix.proofs.laws.fiber_of_table.Goals as goal

pub returns : goal.returns
returns c matrix sound u table =
    let long = length-margins matrix.rows matrix.columns table sound.each in (
      fill-only matrix.rows matrix.columns sound.each u (margins_of matrix table) long,
      λ has. fill-has matrix.rows matrix.columns sound.each u (margins_of matrix table) long
          has.0 has.1,
    )
