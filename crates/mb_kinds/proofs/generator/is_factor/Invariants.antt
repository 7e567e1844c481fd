use Rattle.std.proofs.Common.{drop, ◌≡◌}
use Rattle.std.specs.List.{list_any}
use Rattle.std.specs.Str.{bytes_eq}
use Rattle.mb_kinds.proofs.generator.is_factor.Given as goal

abbrev pub invariant-loop-k : goal.invariant-loop-k
invariant-loop-k l =
    list_any (bytes_eq l.name) l.dataset.factors
    ≡ list_any (bytes_eq l.name) (drop l.k l.dataset.factors)
