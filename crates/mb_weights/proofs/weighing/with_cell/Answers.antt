use Rattle.std.proofs.Common.{arith, ◌^◌}
use Rattle.std.proofs.Math.Nat.{one-le-pow}
use Rattle.mb_weights.proofs.Binomials.{ways_above}
use Rattle.mb_weights.proofs.CellFactors.{factor-none, factor-one, factor_above, part_within}
use Rattle.mb_weights.proofs.weighing.with_cell.Goals as goal
use Rattle.mb_weights.specs.Binomial.{ways}
use Rattle.mb_weights.specs.loops.Factors.{factor}

pub returns-then-count-eq0 : goal.returns-then-count-eq0
returns-then-count-eq0 c =
    let e = factor-none c.args.rest c.args.base c.args.count c.if-count-eq0.true in
    let fits = c.ranges.product.fits in
    rw e (omega arith, omega arith)

pub returns-in_err-chosen : goal.returns-in_err-chosen
returns-in_err-chosen c =
    let above = one-le-pow c.args.count c.args.base c.requires.base in
    let some = ways_above c.args.rest c.args.count in
    let part =
    part_within (ways c.args.rest c.args.count) (c.args.base ^ c.args.count) some above in
    let whole =
    part_within c.args.product (factor c.args.rest c.args.base c.args.count) c.requires.some
    (factor_above c.args.rest c.args.base c.args.count c.requires.base) in
    let passed = c.in_err-chosen.ensures in
    rw c.from_residual.ensures (λ fits. passed (omega (arith, part.0, whole.1, fits)))

pub returns-then-base-eq1 : goal.returns-then-base-eq1
returns-then-base-eq1 c =
    rw (
      factor-one c.args.rest c.args.base c.args.count c.if-base-eq1.true,
      ← c.in_ok-chosen.ensures.1,
    ) c.times.ensures

pub returns-in_err-power : goal.returns-in_err-power
returns-in_err-power c =
    let above = one-le-pow c.args.count c.args.base c.requires.base in
    let some = ways_above c.args.rest c.args.count in
    let part =
    part_within (ways c.args.rest c.args.count) (c.args.base ^ c.args.count) some above in
    let whole =
    part_within c.args.product (factor c.args.rest c.args.base c.args.count) c.requires.some
    (factor_above c.args.rest c.args.base c.args.count c.requires.base) in
    let passed = rw c.from.ensures at c.in_err-power.ensures in
    rw c.from_residual-in_err-power.ensures
    (λ fits. passed (omega (arith, part.1, whole.1, fits)))
