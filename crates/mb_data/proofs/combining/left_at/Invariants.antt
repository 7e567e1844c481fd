use Rattle.std.proofs.Common.{drop, length, ◌-◌, ◌/◌, ◌≡◌}
use Rattle.mb_data.specs.CrossTable.{combinations, sizes}
use Rattle.mb_data.proofs.combining.left_at.Given as goal

abbrev pub invariant-loop-k : goal.invariant-loop-k
invariant-loop-k l =
    l.left ≡ l.number / combinations (drop (length (sizes l.levels) - l.k) (sizes l.levels))
