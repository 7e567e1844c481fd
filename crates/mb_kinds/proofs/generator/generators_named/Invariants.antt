use Rattle.std.proofs.Common.{map, take, ◌≡◌}
use Rattle.mb_kinds.specs.Generators.{factors_named}
use Rattle.mb_kinds.proofs.generator.generators_named.Given as goal

abbrev pub invariant-loop-names : goal.invariant-loop-names
invariant-loop-names l =
    l.generators.items ≡ map (factors_named l.dataset.factors) (take l.names-index l.named)
