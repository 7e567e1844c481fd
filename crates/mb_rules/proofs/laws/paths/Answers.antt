use Rattle.mb_rules.proofs.ByMoves.{joined}
use Rattle.mb_rules.proofs.laws.paths.Goals as goal

pub returns : goal.returns
returns c d columns less rules moves fit order eliminates valid pairs starts paths =
    joined d columns less rules moves valid paths fit order eliminates pairs starts
