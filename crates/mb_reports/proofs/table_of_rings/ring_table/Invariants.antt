use Rattle.std.proofs.Common.{take, ◌++◌, ◌≡◌}
use Rattle.mb_reports.proofs.Lines.{listed}
use Rattle.mb_reports.specs.RingTable.{rings_lines}
use Rattle.mb_reports.proofs.table_of_rings.ring_table.Given as goal

abbrev pub invariant-loop-k : goal.invariant-loop-k
invariant-loop-k l =
    l.out.items ≡ l.initial.out.items ++ rings_lines 0 (listed (take l.k l.rings))
