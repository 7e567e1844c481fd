use Rattle.std.proofs.Common.{map, pos, take, ◌+◌, ◌++◌, ◌≡◌}
use Rattle.mb_kinds.specs.Kinds.{same}
use Rattle.mb_kinds.proofs.hardy_weinberg.push_class.Given as goal

abbrev pub invariant-loop-pair : goal.invariant-loop-pair
invariant-loop-pair l =
    l.entries.items
    ≡ l.fn.entries.items ++ map (λ p. pos (same l.class p.0 + same l.class p.1))
    (take l.pair-index l.pairs)
