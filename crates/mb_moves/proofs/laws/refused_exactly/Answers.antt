use Rattle.mb_moves.proofs.RefusedTexts.{array_faulty, array_refused}
use Rattle.mb_moves.proofs.laws.refused_exactly.Goals as goal

pub returns : goal.returns
returns c lowest highest tokens fault =
    (array_refused lowest highest tokens fault, array_faulty lowest highest tokens fault)
