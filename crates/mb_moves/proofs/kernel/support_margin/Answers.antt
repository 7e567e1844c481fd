use Rattle.std.proofs.Common.{arith, get_or, length, pos, rules, ℕ, ℤ, ◌*ℤ◌, ◌+ℤ◌, ◌<◌, ◌≡◌, ◌≤◌, ◌^◌}
use Rattle.std.proofs.lemmas.Int.{ints, to_z-of_z}
use Rattle.std.specs.Int.RustNames.{unsigned_abs}
use Rattle.mb_moves.proofs.ProductBounds.{above_low, abs_entry_product, below_high}
use Rattle.mb_moves.proofs.SupportSteps.{cells_margin-all, cells_margin-more}
use mir.Syntax.{w32, w128}
use mir.Val.{SFits, to_z}
use Rattle.mb_moves.proofs.kernel.support_margin.Goals as goal

-- the cell of this turn
abbrev cell : (c : goal.After-product-sum) → ℕ
cell c = get_or c.args.cells.now c.loop-cell.cell-index 0

-- the number of the row there
abbrev left : (c : goal.After-product-sum) → ℤ
left c = get_or c.args.row.now (cell c) (pos 0)

-- the entry of the move there
abbrev right : (c : goal.After-product-sum) → ℤ
right c = get_or c.args.move_entries.now (cell c) (pos 0)

-- the cell is one of the row
in_row : (c : goal.After-product-sum) → cell c < length c.args.row.now
in_row c = c.requires.cells c.loop-cell.cell-index 0 c.loop-cell-test.true

-- both numbers have 32 bits
fits_left : (c : goal.After-product-sum) → SFits w32 (left c)
fits_left c = search rules

-- the second
fits_right : (c : goal.After-product-sum) → SFits w32 (right c)
fits_right c = search rules

-- what the call of the product gave
product_is : (c : goal.After-product-sum) → c.product-sum.result ≡ (left c *ℤ right c)
product_is c =
    rw (to_z-of_z w32 (left c) (fits_left c), to_z-of_z w32 (right c) (fits_right c)) at
    c.product-sum.ensures

-- how large it is at most
product_bound : (c : goal.After-product-sum) → unsigned_abs c.product-sum.result ≤ 2 ^ 62
product_bound c =
    rw (product_is c) (abs_entry_product (left c) (right c) (fits_left c) (fits_right c))

-- so it fits
fits_product : (c : goal.After-product-sum) → SFits w128 c.product-sum.result
fits_product c = search rules

-- and so does the sum
fits_sum : (c : goal.After-product-sum) →
    SFits w128 (to_z w128 c.loop-cell.sum-bits +ℤ c.product-sum.result)
fits_sum c =
    let low = above_low c.product-sum.result _ (product_bound c) in
    let high = below_high c.product-sum.result _ (product_bound c) in
    omega (arith, ints)

pub overflow_add-sum : goal.overflow_add-sum
overflow_add-sum c = rw (to_z-of_z w128 c.product-sum.result (fits_product c)) (fits_sum c)

pub loop-cell-preserved : goal.loop-cell-preserved
loop-cell-preserved c =
    let sum = to_z w128 c.loop-cell.sum-bits +ℤ c.product-sum.result in
    let low = above_low c.product-sum.result _ (product_bound c) in
    let high = below_high c.product-sum.result _ (product_bound c) in
    rw (to_z-of_z w128 c.product-sum.result (fits_product c), to_z-of_z w128 sum (fits_sum c))
    (record {
      total = cells_margin-more c.args.row.now c.args.move_entries.now c.args.cells.now
          c.loop-cell.cell-index _ _ _
          c.loop-cell-test.true (product_is c) c.loop-cell.invariant.total;
      low = omega (arith, ints);
      high = omega (arith, ints);
    })

pub returns : goal.returns
returns c = cells_margin-all c.args.row.now c.args.move_entries.now c.args.cells.now
    c.loop-cell.cell-index _ _ c.loop-cell-test.false c.loop-cell.invariant.total
