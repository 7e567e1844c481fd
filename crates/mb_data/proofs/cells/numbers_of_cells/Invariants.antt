use Rattle.std.proofs.Common.{◌≡◌}
use Rattle.std.specs.List.{filter, range_with_len, slice_index_or}
use Rattle.std.specs.Option.{is_some}
use Rattle.mb_data.specs.CrossTable.{count_in}
use Rattle.mb_data.specs.declared.entry.Entry.TheVariants.{StructuralZero}
use Rattle.mb_data.proofs.cells.numbers_of_cells.Given as goal

abbrev pub invariant-loop-number : goal.invariant-loop-number
invariant-loop-number l =
    l.numbers.items
    ≡ filter (λ k. is_some (count_in (slice_index_or l.entries k StructuralZero)))
    (range_with_len 0 l.number)
