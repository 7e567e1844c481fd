use Rattle.std.proofs.Common.{[], length, pos, take, ◌++◌, ◌≡◌, ◌∷◌}
use Rattle.std.specs.List.{flat_map}
use Rattle.mb_moves.specs.Written.{number_line}
use Rattle.mb_moves.proofs.writing.write_matrix.Given as goal

abbrev pub invariant-loop-i : goal.invariant-loop-i
invariant-loop-i l =
    l.out.items ≡ number_line (pos (length l.grid.rows) ∷ pos l.grid.width ∷ [])
    ++ flat_map number_line (take l.i l.grid.rows)
