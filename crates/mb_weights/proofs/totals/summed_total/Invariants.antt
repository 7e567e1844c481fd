use Rattle.std.proofs.Common.{◌*◌, ◌+◌, ◌^◌, ◌≡◌, ◌≤◌}
use Rattle.mb_weights.proofs.totals.summed_total.Given as goal
use Rattle.mb_weights.specs.loops.Factors.{total_from}

abbrev pub invariant-loop-cell : goal.invariant-loop-cell
invariant-loop-cell l = record {
  so_far : l.sum + total_from l.cell l.group l.groups l.counts
      ≡ total_from l.from l.group l.groups l.counts;
  small : l.sum ≤ 2 ^ 32 * l.cell;
}
