use Rattle.sqlite.specs.Held.{state}
use Rattle.mb_keeper.proofs.Calls.{names_kept}
use Rattle.mb_keeper.proofs.table.name_rows.Goals as goal

pub returns : goal.returns
returns g c =
    let said = c.query_all.ensures in
    names_kept (state g.S.Store c.args.connection.now) (state g.S.Store c.query_all.new.self)
    c.args.kind c.query_all.result
    said.survives.clean c.look.ensures
    (λ clean. rw (c.params-to_sql.ensures, c.from.ensures) at (said.ok clean))
    (λ clean. rw (c.params-to_sql.ensures, c.from.ensures) at (said.err clean))
