use Rattle.std.proofs.Common.{List, Some, [], ap, arith, length, drop, get_or, refl, slice_get, sym, take, ℕ, ℤ, ◌*◌, ◌+◌, ◌<◌, ◌≡◌, ◌≤◌, ◌∙◌}
use Rattle.std.proofs.lemmas.Option.{slice_get-get_or}
use Rattle.mb_tables.specs.Rows.{Rows, array_of}
use Rattle.mb_moves.specs.declared.grid.Grid.TheInside.{Inside}
use Rattle.mb_moves.proofs.ProductBounds.{row_within}
use Rattle.mb_tables.proofs.RowsOfEntries.{get_or-rows_of, length-rows_of}
use Rattle.mb_moves.proofs.grid.Grid.row.Goals as goal

-- a row of the grid's lies within the entries
module _ (inside : Inside) (now : Rows) (entries : List ℤ) (row : ℕ)
    (view_is : array_of inside.cols inside.rows inside.entries.items ≡ now)
    (full : length inside.entries.items ≡ inside.rows * inside.cols)
    (same : entries ≡ inside.entries.items) (l : row < length now.rows) where
  in_grid : row < inside.rows
  in_grid =
      let size = length-rows_of inside.cols inside.rows inside.entries.items in
      let rows = ap (λ (array : Rows). length array.rows) view_is in
      omega arith

  within : row * inside.cols + inside.cols ≤ length entries
  within =
      let product = row_within row inside.rows inside.cols in_grid in
      let size = ap length same in
      omega arith

  row_is : slice_get now.rows row
      ≡ Some (take inside.cols (drop (row * inside.cols) inside.entries.items))
  row_is =
      slice_get-get_or now.rows row [] l
      ∙ ap Some (ap (λ (array : Rows). get_or array.rows row []) (sym view_is)
      ∙ get_or-rows_of inside.cols inside.rows inside.entries.items row [] in_grid)

pub split_at-requires : goal.split_at-requires
split_at-requires c =
    let room = within c.self.inside c.args.self.now c.as_slice.result.now c.args.row
    c.self.view_is c.self.invariant.full c.as_slice.ensures.value c.requires in
    omega arith

pub split_at-requires-2 : goal.split_at-requires-2
split_at-requires-2 c =
    let room = within c.self.inside c.args.self.now c.as_slice.result.now c.args.row
    c.self.view_is c.self.invariant.full c.as_slice.ensures.value c.requires in
    omega (arith, c.split_at.ensures.back_len)

pub returns-clause-entries : goal.returns-clause-entries
returns-clause-entries c =
    row_is c.self.inside c.args.self.now c.as_slice.result.now c.args.row
    c.self.view_is c.self.invariant.full c.as_slice.ensures.value c.requires
    ∙ ap Some (sym (rw (
      c.split_at-2.ensures.front,
      c.split_at.ensures.back,
      c.as_slice.ensures.value,
    ) refl))
