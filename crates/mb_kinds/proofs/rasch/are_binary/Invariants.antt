use Rattle.std.proofs.Common.{drop, ◌==◌, ◌≡◌}
use Rattle.std.specs.List.{list_all}
use Rattle.mb_data.specs.CrossTable.{sizes}
use Rattle.mb_kinds.proofs.rasch.are_binary.Given as goal
use Rattle.mb_tables.specs.Vectors.{at}

abbrev pub invariant-loop-factor : goal.invariant-loop-factor
invariant-loop-factor l =
    list_all (λ k. at (sizes l.dataset.levels) k == 2) l.factor-items
    ≡ list_all (λ k. at (sizes l.dataset.levels) k == 2) (drop l.factor-index l.factor-items)
