use Rattle.std.proofs.Common.{arith, length}
use Rattle.std.proofs.lemmas.List.FromFn.{length-range_with_len}
use Rattle.std.specs.List.{range_with_len}
use Rattle.mb_matrix.proofs.CellLists.{rises-range}
use Rattle.mb_matrix.proofs.Triangular.{cells-all, cells-in, free-rises, triangular}
use Rattle.mb_matrix.proofs.key_laws.peel_is_triangular.Goals as goal
use Rattle.mb_tables.proofs.ListLaws.{In-range, range-only}

pub returns : goal.returns
returns c matrix =
    let cells = length matrix.columns in
    let all = range_with_len 0 cells in
    record {
      triangular = triangular matrix cells all;
      whole = λ cell. (
        (λ h. cells-all matrix cells all cell (omega (arith, length-range_with_len 0 cells))
            (In-range 0 cells cell (omega arith) (omega arith))),
        (λ i. let r = range-only 0 cells cell (cells-in matrix cells all cell i) in
            let l = r.1 in omega arith),
      );
      rises = free-rises matrix cells all (rises-range 0 cells);
    }
