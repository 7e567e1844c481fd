use Rattle.mb_rings.proofs.Reaching.{reaches_fiber}
use Rattle.mb_rings.proofs.laws.markov_basis_reaches_fiber.Goals as goal

pub returns : goal.returns
returns c = reaches_fiber
