use Rattle.std.proofs.Common.{[], ℕ, ◌↔◌, ◌≡◌}
use Rattle.mb_claims.specs.Claims.{IsRootOf}
use Rattle.mb_keyed.proofs.claimed_ring.grow_full.Given as goal
use Rattle.mb_tables.specs.Lists.{In}

abbrev pub invariant-loop-shard : goal.invariant-loop-shard
invariant-loop-shard l =
    IsRootOf l.shards l.root
    × (l.root.knows.opened ≡ [])
    × ((key : ℕ) → In key l.root.knows.gathered ↔ In key l.initial.root.knows.gathered)
