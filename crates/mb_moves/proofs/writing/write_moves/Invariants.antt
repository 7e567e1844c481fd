use Rattle.std.proofs.Common.{[], length, pos, take, ◌++◌, ◌≡◌, ◌∷◌}
use Rattle.std.specs.List.{flat_map}
use Rattle.mb_moves.specs.Written.{number_line}
use Rattle.mb_moves.proofs.writing.write_moves.Given as goal

abbrev pub invariant-loop-z : goal.invariant-loop-z
invariant-loop-z l =
    l.out.items ≡ number_line (pos (length l.moves.rows) ∷ pos l.moves.width ∷ [])
    ++ flat_map number_line (take l.z-index l.moves.rows)
