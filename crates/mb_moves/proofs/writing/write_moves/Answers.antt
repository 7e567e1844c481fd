use Rattle.std.proofs.Common.{[], ap, arith, length, pos, ◌++◌, ◌∙◌, ◌∷◌}
use Rattle.std.proofs.lemmas.List.{take_all}
use Rattle.std.specs.List.{flat_map}
use Rattle.mb_moves.specs.Written.{number_line, written}
use Rattle.mb_moves.proofs.writing.write_moves.Goals as goal

pub returns : goal.returns
unfolding written
returns c =
    let moves = c.args.moves.now in
    c.loop-z.invariant
    ∙ ap (λ rows. number_line (pos (length moves.rows) ∷ pos moves.width ∷ [])
    ++ flat_map number_line rows) (take_all c.loop-z.z-index moves.rows
    (omega (arith, ap length c.as_slice-z-items.ensures.moves)))
