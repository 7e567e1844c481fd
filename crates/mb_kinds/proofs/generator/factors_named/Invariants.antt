use Rattle.std.proofs.Common.{[], ◌≡◌}
use Rattle.std.specs.List.{filter, range_with_len, slice_index_or}
use Rattle.mb_kinds.specs.Generators.{is_among}
use Rattle.mb_kinds.proofs.generator.factors_named.Given as goal

abbrev pub invariant-loop-k : goal.invariant-loop-k
invariant-loop-k l =
    l.factors.items
    ≡ filter (λ k. is_among l.names (slice_index_or l.dataset.factors k [])) (range_with_len 0 l.k)
