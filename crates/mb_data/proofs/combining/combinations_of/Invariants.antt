use Rattle.std.proofs.Common.{drop, length, min, ◌-◌, ◌^◌, ◌≡◌}
use Rattle.mb_data.specs.CrossTable.{combinations, sizes}
use Rattle.mb_data.proofs.combining.combinations_of.Given as goal

abbrev pub invariant-loop-k : goal.invariant-loop-k
invariant-loop-k l =
    l.count ≡ min (combinations (drop (length (sizes l.levels) - l.k) (sizes l.levels)))
    (2 ^ 64 - 1)
