use Rattle.mb_matrix.proofs.FillLaws.{fill-has, fill-only}
use Rattle.mb_matrix.proofs.laws.fiber_has_exactly.Goals as goal

pub returns : goal.returns
returns c d columns h u b e = (fill-only d columns h u b e, λ g. fill-has d columns h u b e g.0 g.1)
