use Rattle.mb_rules.proofs.Confluence.{newman}
use Rattle.mb_rules.proofs.laws.newman.Goals as goal

pub returns : goal.returns
returns c = newman
