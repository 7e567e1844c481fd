use Rattle.std.proofs.Common.{map, pos, ◌%◌, ◌/◌, ◌≡◌}
use Rattle.std.specs.List.{range_with_len}
use Rattle.mb_desk.specs.loops.SquareEntries.{square_entry}
use Rattle.mb_desk.proofs.independence.entries.Given as goal

abbrev pub invariant-loop-place : goal.invariant-loop-place
invariant-loop-place l =
    l.entries.items
    ≡ map (λ place. pos (square_entry (place / 16) (place % 16))) (range_with_len 0 l.place)
