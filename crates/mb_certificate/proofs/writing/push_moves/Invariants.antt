use Rattle.std.proofs.Common.{take, ◌++◌, ◌≡◌}
use Rattle.std.specs.List.{flat_map}
use Rattle.mb_certificate.specs.Written.{move_items}
use Rattle.mb_text.specs.Lines.{line}
use Rattle.mb_certificate.proofs.writing.push_moves.Given as goal

abbrev pub invariant-loop-z : goal.invariant-loop-z
invariant-loop-z l =
    l.out.items
    ≡ l.initial.out.items ++ flat_map (λ z. line (move_items z)) (take l.z-index l.moves)
