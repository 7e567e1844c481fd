use Rattle.std.proofs.Common.{arith}
use Rattle.std.proofs.lemmas.Nat.{mod_below}
use Rattle.mb_claims.proofs.ProbeSteps.{home_ends}
use Rattle.mb_claims.proofs.shards.Shards.home.Goals as goal

pub returns-clause-ends : goal.returns-clause-ends
returns-clause-ends c =
    let some = c.self.invariant.fit.some in
    let low =
    mod_below c.args.key c.len-shards.result (omega (arith, some, c.len-shards.ensures)) in
    home_ends c.self.invariant c.divided-shard.result.0 c.index.result.now
    c.index-words.result.now
    (omega (arith, low, c.len-shards.ensures, c.divided-shard.ensures.remainder)) c.index.ensures
    c.index-words.ensures
