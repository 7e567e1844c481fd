-- The insertion in the tree is one in the rows.
use Rattle.mb_outside.proofs.KeptRows.{tree_rows-inserted}
use Rattle.mb_outside.proofs.memory_keeper.put_under.Goals as goal

pub returns-in-Ok-clause-put : goal.returns-in-Ok-clause-put
returns-in-Ok-clause-put c =
    tree_rows-inserted c.args.bodies.now c.insert.new.self c.args.key c.args.body
    c.in-Ok.ensures.updates
