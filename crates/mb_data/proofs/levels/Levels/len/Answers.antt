use Rattle.mb_data.proofs.NamePlaces.{index_apart}
use Rattle.mb_data.proofs.levels.Levels.len.Goals as goal

-- src/levels.rt:46:5
pub returns-clause-apart : goal.returns-clause-apart
returns-clause-apart c = rw c.self.view_is at (index_apart _ _ c.self.invariant)
