use Rattle.std.proofs.Common.{IfOk, OnOk, Result, Vec, subst, ℕ, Global}
use Rattle.mb_claims.specs.Lists.{AreDistinctKeys}
use Rattle.mb_keyed.proofs.KeyedTables.{finds-keyed}
use Rattle.mb_keyed.proofs.keyed_ring.next_keyed_ring.Goals as goal
use Rattle.mb_keyed.specs.declared.ranked.Ranked.{Ranked}
use Rattle.mb_keyed.specs.loops.Graph.{IsKeyNear}
use Rattle.mb_keyed.specs.loops.Keyed.{AreFound}
use Rattle.mb_keyed.specs.loops.Worked.{keys_in}
use Rattle.mb_rings.specs.declared.fault.WalkFault.{WalkFault}
use Rattle.mb_tables.specs.Lists.{In}
use Rattle.mb_tables.specs.Step.{IsNear}

pub ring_of_keys-requires-clause-there : goal.ring_of_keys-requires-clause-there
ring_of_keys-requires-clause-there g c κs within key i =
    let found : AreFound (IsKeyNear c.args.graph.now c.args.ring.now) c.args.root.now.knows.gathered
    c.claim_ring-shards.new.root.knows.gathered (keys_in c.in-Ok.found.items) =
    subst (λ (r : Result (Vec Ranked Global) WalkFault). IfOk r (λ list. AreFound
    (IsKeyNear c.args.graph.now c.args.ring.now)
    c.args.root.now.knows.gathered c.claim_ring-shards.new.root.knows.gathered (keys_in
    list.items))) c.in-Ok.is c.claim_ring-shards.ensures.found in
    let s = found.fresh.sought key i in
    rw c.fiber.ensures (s.0, c.requires.fiber s.0 s.1, s.2)

pub returns-in-Ok-ring_of_keys-clause-found : goal.returns-in-Ok-ring_of_keys-clause-found
returns-in-Ok-ring_of_keys-clause-found g c =
    let found : AreFound (IsKeyNear c.args.graph.now c.args.ring.now) c.args.root.now.knows.gathered
    c.claim_ring-shards.new.root.knows.gathered (keys_in c.in-Ok.found.items) =
    subst (λ (r : Result (Vec Ranked Global) WalkFault). IfOk r (λ list. AreFound
    (IsKeyNear c.args.graph.now c.args.ring.now)
    c.args.root.now.knows.gathered c.claim_ring-shards.new.root.knows.gathered (keys_in
    list.items))) c.in-Ok.is c.claim_ring-shards.ensures.found in
    let once : AreDistinctKeys c.claim_ring-shards.new.root.knows.gathered =
    subst (λ (r : Result (Vec Ranked Global) WalkFault). OnOk r
    (AreDistinctKeys c.claim_ring-shards.new.root.knows.gathered)) c.in-Ok.is
    c.claim_ring-shards.ensures.once in
    let told : (key : ℕ) → (IsKeyNear c.args.graph.now c.args.ring.now) key →
    In key c.claim_ring-shards.new.root.knows.gathered =
    subst (λ (r : Result (Vec Ranked Global) WalkFault). OnOk r ((key : ℕ) →
    (IsKeyNear c.args.graph.now c.args.ring.now) key →
    In key c.claim_ring-shards.new.root.knows.gathered)) c.in-Ok.is
    c.claim_ring-shards.ensures.told in
    finds-keyed c.args.graph.now.fiber c.keys-keys.ensures.sound
    (IsNear c.args.graph.now.moves.rows c.args.ring.now) c.requires.fiber
    c.args.root.now.knows.gathered c.claim_ring-shards.new.root.knows.gathered
    (keys_in c.in-Ok.found.items) c.in-Ok-ring_of_keys.next.items found once told (rw
    c.fiber.ensures at c.in-Ok-ring_of_keys.ensures.keys)
    (rw c.fiber.ensures at c.in-Ok-ring_of_keys.ensures.fiber)
    c.in-Ok-ring_of_keys.ensures.ascends
