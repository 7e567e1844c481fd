-- The lines of the sizes and of the rows are the matrix file.
use Rattle.std.proofs.Common.{rules, length, [], ◌++◌, ◌∷◌, ◌≡◌}
use Rattle.std.specs.Fmt.{decimal}
use Rattle.std.specs.List.{flat_map}
use Rattle.mb_moves.proofs.RowLines.{file_written}
use Rattle.mb_moves.specs.Written.{row_lines}
use Rattle.mb_text.specs.Lines.{line}
use Rattle.mb_moves.proofs.design.write_design.Goals as goal

pub returns : goal.returns
returns c =
    let matrix = c.args.matrix.now in
    let lines : c.push_rows.new.out.items
    ≡ line (decimal matrix.rows ∷ decimal (length matrix.columns) ∷ [])
    ++ flat_map line (row_lines matrix) = search rules in
    file_written matrix c.push_rows.new.out.items lines
