use Rattle.std.proofs.Common.{rules}
use Rattle.mb_keyed.proofs.ClaimSteps.{claims-known}
use Rattle.mb_keyed.proofs.worker.claim_keys.Goals as goal
use Rattle.mb_keyed.specs.loops.Worked.{AreUnknown, keys_in}

pub returns-clause-claimed : goal.returns-clause-claimed
returns-clause-claimed c =
    let keys = keys_in c.args.near.now in
    let unknown = keys_in c.list_unknown.new.unknown.items in
    let listed : AreUnknown c.args.worker.now.cache keys unknown = search rules in
    claims-known keys unknown c.args.worker.now c.claim_all.new.worker c.requires.ours.1 listed
    c.requires.some (rw c.as_slice-keys.ensures.value at c.claim_all.ensures.claimed)
