use Rattle.std.proofs.Common.{take, ◌≡◌}
use Rattle.mb_reports.proofs.Lines.{listed}
use Rattle.mb_reports.specs.RingTable.{tables_in}
use Rattle.mb_reports.proofs.table_of_rings.count_tables.Given as goal

abbrev pub invariant-loop-ring : goal.invariant-loop-ring
invariant-loop-ring l = l.tables ≡ tables_in (listed (take l.ring-index l.rings))
