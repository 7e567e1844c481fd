use Rattle.std.proofs.Common.{[], ap, arith, length, pos, ◌++◌, ◌∙◌, ◌∷◌}
use Rattle.std.proofs.lemmas.List.{take_all}
use Rattle.std.specs.List.{flat_map}
use Rattle.mb_moves.proofs.WrittenLines.{line_more}
use Rattle.mb_moves.specs.Written.{number_line, written}
use Rattle.mb_moves.proofs.writing.write_matrix.Goals as goal

pub returns : goal.returns
unfolding written
returns c =
    let grid = c.args.grid.now in
    c.loop-i.invariant
    ∙ ap (λ rows. number_line (pos (length grid.rows) ∷ pos grid.width ∷ [])
    ++ flat_map number_line rows) (take_all c.loop-i.i grid.rows (omega arith))

pub loop-i-preserved : goal.loop-i-preserved
loop-i-preserved c =
    let grid = c.args.grid.now in
    line_more (number_line (pos (length grid.rows) ∷ pos grid.width ∷ [])) c.loop-i.out.items
    c.push_line.new.out.items grid.rows c.loop-i.i c.row.result.now c.loop-i.invariant
    c.in_ok-push_line.ensures c.row.ensures.entries (omega arith)
