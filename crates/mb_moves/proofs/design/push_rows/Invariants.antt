use Rattle.std.proofs.Common.{map, ◌++◌, ◌≡◌}
use Rattle.std.specs.Fmt.{decimal}
use Rattle.std.specs.List.{flat_map, range_with_len}
use Rattle.mb_matrix.specs.Matrix.{row_of}
use Rattle.mb_text.specs.Lines.{line}
use Rattle.mb_moves.proofs.design.push_rows.Given as goal

abbrev pub invariant-loop-row : goal.invariant-loop-row
invariant-loop-row l =
    l.out.items ≡ l.fn.out.items
    ++ flat_map line (map (λ i. map decimal (row_of l.matrix i)) (range_with_len 0 l.row))
