use Rattle.mb_keyed.proofs.NearKeys.{gains-step}
use Rattle.mb_keyed.proofs.near_keys.push_step.Goals as goal
use Rattle.mb_keyed.specs.loops.Keyed.{digits_in}
use Rattle.mb_matrix.specs.Key.{key_of}

pub returns-in_ok-push : goal.returns-in_ok-push
returns-in_ok-push c =
    let digits = digits_in c.args.graph.now.fiber in
    gains-step digits c.args.sign c.args.counts.now c.args.z.now c.args.needs.now
    c.requires.needs c.args.near.now.items c.push.new.self.items
    (record { key = c.moved_key-key.result; rank = c.args.rank }) c.in_ok-push.ensures.items
    (λ v moved. c.moved_key-key.ensures (key_of digits) digits c.args.z.now c.args.counts.now v
    c.requires.delta c.requires.key moved (c.requires.keyed v moved).suits)
    c.if-has.ensures.has
