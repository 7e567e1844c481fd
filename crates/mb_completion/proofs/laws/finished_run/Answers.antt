use Rattle.mb_completion.proofs.Births.{finished_run}
use Rattle.mb_completion.proofs.laws.finished_run.Goals as goal

pub returns : goal.returns
returns c = finished_run
