use Rattle.std.proofs.Common.{rules, ◌∙◌, subst}
use Rattle.sqlite.specs.Held.{state}
use Rattle.mb_keeper.specs.Known.{Holds}
use Rattle.mb_keeper.proofs.Within.{at_place, next_lacks, next_rows, within_then}
use Rattle.mb_keeper.proofs.table.insert_all.Goals as goal

pub loop-row-preserved : goal.loop-row-preserved
loop-row-preserved g c =
    let now = c.insert_within.new.transaction.conn.now in
    let here = at_place c.args.rows.now c.loop-row.row-index c.row-item.result c.row-item.result
    (search rules) c.row-item.is in
    record {
      same = c.insert_within.ensures.same_reference ∙ c.loop-row.invariant.same;
      within = within_then (state g.S.Store c.args.transaction.now.conn.now)
          (state g.S.Store c.loop-row.transaction.conn.now) (state g.S.Store now)
          c.loop-row.invariant.within c.insert_within.ensures.within;
      added = λ start. subst (Holds (state g.S.Store now))
          (next_rows c.args.rows.now c.loop-row.row-index c.row-item.result c.requires here)
          (c.in_ok-insert_within.ensures.added _
          (next_lacks c.args.rows.now c.loop-row.row-index c.row-item.result c.requires here)
          (c.loop-row.invariant.added start));
    }
