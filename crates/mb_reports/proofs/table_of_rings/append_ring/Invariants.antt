use Rattle.std.proofs.Common.{take, ◌++◌, ◌≡◌}
use Rattle.std.specs.List.{flat_map}
use Rattle.mb_reports.specs.RingTable.{table_line}
use Rattle.mb_reports.proofs.table_of_rings.append_ring.Given as goal

abbrev pub invariant-loop-table : goal.invariant-loop-table
invariant-loop-table l =
    l.out.items ≡ l.initial.out.items ++ flat_map table_line (take l.table-index l.ring)
