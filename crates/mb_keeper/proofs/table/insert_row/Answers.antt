use Rattle.sqlite.specs.Held.{state}
use Rattle.mb_keeper.proofs.Calls.{insertion_kept}
use Rattle.mb_keeper.proofs.table.insert_row.Goals as goal

pub returns : goal.returns
returns g c =
    insertion_kept (state g.S.Store c.args.connection.now) (state g.S.Store c.execute.new.self)
    c.args.kind c.args.name.now c.args.body.now c.execute.result
    c.execute.ensures.survives.clean c.look.ensures
    (λ clean. rw (
      c.params-to_sql.ensures,
      c.params-to_sql-2.ensures,
      c.params-to_sql-3.ensures,
      c.from.ensures,
    ) at (c.execute.ensures.runs clean))
