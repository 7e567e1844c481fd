use Rattle.std.proofs.Common.{drop, ◌++◌, ◌≡◌}
use Rattle.mb_data.specs.CrossTable.{combination, named, sizes}
use Rattle.mb_data.specs.loops.Commas.{with_commas}
use Rattle.mb_data.proofs.writing.push_levels.Given as goal

abbrev pub invariant-loop-factor : goal.invariant-loop-factor
invariant-loop-factor l =
    l.out.items
    ++ with_commas (drop l.factor (named l.dataset.levels
    (combination (sizes l.dataset.levels) l.number)))
    ≡ l.fn.out.items
    ++ with_commas (named l.dataset.levels (combination (sizes l.dataset.levels) l.number))
