use Rattle.std.proofs.Common.{arith, ◌+◌}
use Rattle.mb_reports.proofs.Lines.{tables_in-le, tables_in-more}
use Rattle.mb_reports.proofs.table_of_rings.count_tables.Goals as goal

pub overflow_add-tables : goal.overflow_add-tables
overflow_add-tables c =
    let rings = c.args.rings.now in
    let more =
    tables_in-more rings c.loop-ring.ring-index c.ring-item.result (omega arith) c.ring-item.is in
    let within = tables_in-le rings (c.loop-ring.ring-index + 1) in
    let kept = c.ring-item.result.ok.0 in omega arith

pub loop-ring-preserved : goal.loop-ring-preserved
loop-ring-preserved c =
    let more =
    tables_in-more c.args.rings.now c.loop-ring.ring-index c.ring-item.result (omega arith)
    c.ring-item.is in
    let kept = c.ring-item.result.ok.0 in omega arith
