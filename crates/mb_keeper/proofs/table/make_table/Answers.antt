use Rattle.sqlite.specs.Held.{state}
use Rattle.mb_keeper.proofs.Calls.{creation_known}
use Rattle.mb_keeper.proofs.table.make_table.Goals as goal

pub returns : goal.returns
returns g c = creation_known (state g.S.Store c.args.connection.now)
    (state g.S.Store c.execute.new.self) c.execute.result c.execute.ensures.runs
