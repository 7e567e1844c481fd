use Rattle.std.proofs.Common.{drop, ◌++◌, ◌≡◌}
use Rattle.mb_data.specs.CrossTable.{combination, named, sizes}
use Rattle.mb_data.specs.loops.Keys.{key_of}
use Rattle.mb_data.proofs.filling.make_key.Given as goal

abbrev pub invariant-loop-factor : goal.invariant-loop-factor
invariant-loop-factor l =
    l.key.items ++ key_of (drop l.factor (named l.levels (combination (sizes l.levels) l.number)))
    ≡ key_of (named l.levels (combination (sizes l.levels) l.number))
