use Rattle.sqlite.specs.Held.{state}
use Rattle.mb_keeper.proofs.Within.{cleared_within}
use Rattle.mb_keeper.proofs.table.delete_all.Goals as goal

pub returns-clause-cleared : goal.returns-clause-cleared
returns-clause-cleared g c =
    cleared_within (state g.S.Store c.args.transaction.now.conn.now)
    (state g.S.Store c.execute.new.self.conn.now) c.execute.result _
    c.execute.ensures.survives.clean (λ off. (c.execute.ensures.ended off).0) c.execute.ensures.runs
