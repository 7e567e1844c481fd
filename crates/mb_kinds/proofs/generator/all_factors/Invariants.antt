use Rattle.std.proofs.Common.{drop, ◌≡◌}
use Rattle.std.specs.List.{list_all}
use Rattle.mb_kinds.specs.Generators.{are_factors}
use Rattle.mb_kinds.proofs.generator.all_factors.Given as goal

abbrev pub invariant-loop-names : goal.invariant-loop-names
invariant-loop-names l =
    list_all (are_factors l.dataset.factors) l.generators
    ≡ list_all (are_factors l.dataset.factors) (drop l.names-index l.generators)
