use Rattle.mb_tables.proofs.JoinedTables.{chain-plus}
use Rattle.mb_tables.proofs.laws.joined_added.Goals as goal

pub returns : goal.returns
returns c moves u v more l h = chain-plus moves u h.0 v more l h.1
