use Rattle.std.proofs.Common.{subst}
use Rattle.mb_keyed.proofs.rounds.try_share.Goals as goal
use Rattle.mb_rings.proofs.RingShares.{In-share}
use Rattle.mb_tables.specs.Lists.{In}

pub expand_share-requires-clause-keyed : goal.expand_share-requires-clause-keyed
expand_share-requires-clause-keyed g c u i =
    c.requires.keyed u
    (In-share c.args.ring.now c.args.share c.args.count u
    (subst (In u) c.share_of-from.ensures.share i))
