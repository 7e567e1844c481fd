use Rattle.std.proofs.Common.{◌<◌, ◌^◌, ◌≡◌}
use Rattle.mb_weights.proofs.weighing.product_of_factors.Given as goal
use Rattle.mb_weights.specs.loops.Factors.{AreTotals, factors_from}

abbrev pub invariant-loop-cell : goal.invariant-loop-cell
invariant-loop-cell l = record {
  so_far : l.product ≡ factors_from l.cell l.groups l.bases l.counts;
  fits : l.product < 2 ^ 128;
  totals : AreTotals l.totals l.cell l.groups l.counts;
}
