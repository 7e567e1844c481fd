use Rattle.std.specs.Prelude.{string_bytes}
use Rattle.sqlite.specs.Held.{state}
use Rattle.mb_keeper.proofs.Within.{inserted_within}
use Rattle.mb_keeper.proofs.table.insert_within.Goals as goal

pub returns-clause-added : goal.returns-clause-added
returns-clause-added g c =
    inserted_within (state g.S.Store c.args.transaction.now.conn.now)
    (state g.S.Store c.execute.new.self.conn.now)
    c.args.row.now.kind (string_bytes c.args.row.now.name) c.args.row.now.body.items
    c.execute.result _
    c.execute.ensures.survives.clean (λ off. (c.execute.ensures.ended off).0)
    (λ clean inside. rw (
      c.params-to_sql.ensures,
      c.params-to_sql-2.ensures,
      c.params-to_sql-3.ensures,
      c.from.ensures,
    ) at (c.execute.ensures.runs clean inside))
