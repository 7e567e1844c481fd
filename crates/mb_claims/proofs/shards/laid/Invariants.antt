use Rattle.std.proofs.Common.{length, slice_index, sum, take, ◌<◌, ◌≡◌, ℕ}
use Rattle.mb_claims.proofs.shards.laid.Given as goal

abbrev pub invariant-loop-size : goal.invariant-loop-size
invariant-loop-size l =
    (l.total ≡ sum (take l.size-index l.sizes))
    × (length l.starts.items ≡ l.size-index)
    × ((shard : ℕ) → shard < l.size-index →
    slice_index l.starts.items shard ≡ sum (take shard l.sizes))
