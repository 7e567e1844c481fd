use Rattle.mb_moves.proofs.EntrySteps.{entries_after-done, entries_after-many}
use Rattle.mb_moves.proofs.entries.read_end.Goals as goal

pub returns-in-None : goal.returns-in-None
returns-in-None c = rw c.in-None.ensures (entries_after-done c.args.wanted)

pub returns-in-Some : goal.returns-in-Some
returns-in-Some c = rw c.in-Some.ensures (entries_after-many c.args.wanted _ _)
