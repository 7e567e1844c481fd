use Rattle.mb_moves.proofs.AcceptedTexts.{array_given, array_taken}
use Rattle.mb_moves.proofs.laws.accepted_exactly.Goals as goal

pub returns : goal.returns
returns c lowest highest tokens array =
    (array_taken lowest highest tokens array, λ h. array_given lowest highest tokens array h.0 h.1)
