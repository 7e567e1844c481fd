use Rattle.std.proofs.Common.{ap, arith, get_or, length, sum, ◌%◌, ◌+◌, ◌/◌, ◌∙◌, ◌≡◌}
use Rattle.mb_claims.proofs.ProbeSteps.{probe-within, probe_is}
use Rattle.mb_claims.proofs.shards.Shards.prefetch.Goals as goal
use Rattle.mb_claims.specs.Claims.{ShardWords}
use Rattle.mb_claims.specs.Probe.{shard_of}

pub peek-requires : goal.peek-requires
peek-requires c =
    let sizes = c.args.self.now.sizes in
    let home = c.home-home.result in
    let ends = c.home-home.ensures in
    let first : c.args.key / length sizes ≡ c.args.key / length sizes + 0 = omega arith in
    let is = probe_is sizes c.args.key home.shard home.start home.words home.at 0 ends.shard
    ends.start ends.words (ends.at ∙ ap (λ n. n % home.words) first) in
    let size : home.words ≡ get_or sizes (shard_of sizes c.args.key) 0 =
    ends.words ∙ ap (λ shard. get_or sizes shard 0) ends.shard in
    let within = probe-within sizes c.args.key 0 0 (omega (arith, size, ends.some)) in
    let same = ap (λ (s : ShardWords). sum s.sizes) c.self.view_is in
    omega (arith, is, within, same, c.self.invariant.total)
