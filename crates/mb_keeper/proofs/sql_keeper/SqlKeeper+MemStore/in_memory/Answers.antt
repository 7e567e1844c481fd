use Rattle.mb_keeper.proofs.InMemory.{lasts_at_once, told_at_once}
use Rattle.mb_keeper.proofs.sql_keeper.SqlKeeper+MemStore.in_memory.Goals as goal

pub returns-in-Ok-clause-empty : goal.returns-in-Ok-clause-empty
returns-in-Ok-clause-empty c =
    told_at_once c.over.result (c.over.ensures.empty c.in-Ok.ensures.empty.2)

pub returns-in-Ok-clause-lasts : goal.returns-in-Ok-clause-lasts
returns-in-Ok-clause-lasts c =
    lasts_at_once c.over.result
    (told_at_once c.over.result (c.over.ensures.empty c.in-Ok.ensures.empty.2))
