use Rattle.std.proofs.Common.{drop, ◌≡◌}
use Rattle.std.specs.List.{list_all}
use Rattle.mb_kinds.specs.Generators.{is_among}
use Rattle.mb_kinds.proofs.generator.are_factors.Given as goal

abbrev pub invariant-loop-k : goal.invariant-loop-k
invariant-loop-k l =
    list_all (is_among l.dataset.factors) l.names
    ≡ list_all (is_among l.dataset.factors) (drop l.k l.names)
