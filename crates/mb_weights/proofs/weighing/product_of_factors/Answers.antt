use Rattle.std.proofs.Common.{ap, arith, length, sym, zero, ◌-◌, ◌∙◌, ◌≡◌}
use Rattle.mb_weights.proofs.CellFactors.{factors_from-all, factors_from_above, factors_within, one_cell_more}
use Rattle.mb_weights.proofs.weighing.product_of_factors.Goals as goal
use Rattle.mb_weights.specs.loops.Factors.{factors_from}

pub loop-cell-init : goal.loop-cell-init
loop-cell-init c =
    let groups = c.requires.measure.each_group in
    record {
      so_far = sym (factors_from-all c.args.groups.now c.args.bases.now c.args.counts.now
          (length c.args.counts.now) (omega arith));
      fits = omega arith;
      totals = c.no_totals-totals.ensures (length c.args.counts.now) c.args.groups.now
          c.args.counts.now (omega arith);
    }

pub with_cell-requires-clause-some : goal.with_cell-requires-clause-some
with_cell-requires-clause-some c =
    rw c.loop-cell.invariant.so_far
    (factors_from_above c.args.groups.now c.args.bases.now c.args.counts.now c.loop-cell.cell
    c.requires.measure.positive)

pub returns-in_err-product : goal.returns-in_err-product
returns-in_err-product c =
    let groups = c.requires.measure.each_group in
    let more =
    one_cell_more c.args.groups.now c.args.bases.now c.args.counts.now c.loop-cell.cell
    c.loop-cell.product c.later_total-rest.result (omega arith) (omega arith) (omega arith)
    (omega arith) c.loop-cell.invariant.so_far c.later_total-rest.ensures.total in
    let within =
    factors_within c.args.groups.now c.args.bases.now c.args.counts.now (c.loop-cell.cell - 1)
    (omega arith) (omega arith) c.requires.measure.positive in
    let passed = rw more at c.in_err-product.ensures in
    rw c.from_residual.ensures (λ fits. passed (omega (arith, within, fits)))

pub loop-cell-preserved : goal.loop-cell-preserved
loop-cell-preserved c =
    let groups = c.requires.measure.each_group in
    let next = c.in_ok-product.ensures in
    record {
      so_far = next.1
          ∙ one_cell_more c.args.groups.now c.args.bases.now c.args.counts.now c.loop-cell.cell
          c.loop-cell.product c.later_total-rest.result (omega arith) (omega arith) (omega arith)
          (omega arith) c.loop-cell.invariant.so_far c.later_total-rest.ensures.total;
      fits = omega (arith, next.0, next.1);
      totals = c.add_count.ensures;
    }

pub returns : goal.returns
returns c =
    let last : c.loop-cell.cell ≡ zero = omega arith in
    let same =
    c.loop-cell.invariant.so_far
    ∙ ap (λ k. factors_from k c.args.groups.now c.args.bases.now c.args.counts.now) last in
    let fits = c.loop-cell.invariant.fits in
    (omega (arith, same, fits), same)
