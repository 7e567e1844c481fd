use Rattle.std.proofs.Common.{map, max, take, ◌≡◌}
use Rattle.mb_claims.proofs.shards.Shards.widened_sizes.Given as goal

abbrev pub invariant-loop-size : goal.invariant-loop-size
invariant-loop-size l = l.sizes.items ≡ map (max l.words) (take l.size-index l.self.sizes)
