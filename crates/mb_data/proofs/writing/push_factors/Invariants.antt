use Rattle.std.proofs.Common.{drop, ◌++◌, ◌≡◌}
use Rattle.mb_data.specs.loops.Commas.{with_commas}
use Rattle.mb_data.proofs.writing.push_factors.Given as goal

abbrev pub invariant-loop-factor : goal.invariant-loop-factor
invariant-loop-factor l =
    l.out.items ++ with_commas (drop l.factor l.dataset.factors)
    ≡ l.fn.out.items ++ with_commas l.dataset.factors
