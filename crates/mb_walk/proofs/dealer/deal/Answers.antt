use Rattle.std.proofs.Common.{arith, inl, inr, sym, subst, length, refl, false, true, ◌≡◌}
use Rattle.mb_tables.specs.Lists.{In}
use Rattle.mb_walk.proofs.DealSteps.{deals-met, deals-one, dealer-put, dealer-same, has-owner, owner-has, pile-has, same-pile}
use Rattle.mb_walk.proofs.OwnedParts.{put-tables}
use Rattle.mb_walk.specs.loops.Piles.{seen_by}
use Rattle.mb_walk.proofs.dealer.deal.Goals as goal
use Rattle.mb_walk.proofs.dealer.deal.Goals.{then-contains-via-then-contains, then-contains-via-else-contains+then-contains-2}

pub returns-then-contains-clause-dealt : goal.returns-then-contains-clause-dealt
returns-then-contains-clause-dealt c =
    deals-met c.args.room (seen_by c.args.owners.now) (λ v. v ≡ c.args.table.now)
    c.args.dealer.now
    (λ v e.
    elim c.then-contains.branch [
      | then-contains-via-then-contains w ↦
          inl (owner-has c.args.owners.now c.owner_of-owner.result c.index-owners-owner.result
          (omega arith) c.index-owners-owner.is c.args.table.now v e (w.if-contains.ensures.0 refl))
      | then-contains-via-else-contains+then-contains-2 w ↦
          inr (pile-has c.args.dealer.now.piles.items c.owner_of-owner.result w.index.result.now
          (omega arith) w.index.ensures c.args.table.now v e (w.if-contains-2.ensures.0 refl))
    ])

pub returns-in-Ok-clause-ours : goal.returns-in-Ok-clause-ours
returns-in-Ok-clause-ours c =
    dealer-put (length c.args.owners.now) c.args.room (seen_by c.args.owners.now) c.args.dealer.now
    _ c.owner_of-owner.result c.args.table.now c.requires.ours c.in-Ok.ensures.put
    (sym c.owner_of-owner.ensures.owner) (λ i.
    let e : false ≡ true = c.if-contains-2.ensures.1
    (subst (In c.args.table.now)
    (same-pile c.args.dealer.now.piles.items c.owner_of-owner.result c.index.result.now
    c.in-Ok.ensures.put.part c.index.ensures c.in-Ok.ensures.put.was) i) in cc)
    (λ i.
    let e : false ≡ true = c.if-contains.ensures.1
    (has-owner c.args.owners.now c.owner_of-owner.result c.index-owners-owner.result (omega arith)
    c.index-owners-owner.is c.requires.parts c.args.table.now
    (sym c.owner_of-owner.ensures.owner) i) in cc)
    (omega arith) refl

pub returns-in-Ok-clause-dealt : goal.returns-in-Ok-clause-dealt
returns-in-Ok-clause-dealt c =
    deals-one c.args.room (seen_by c.args.owners.now) c.args.table.now c.args.dealer.now _
    (put-tables c.owner_of-owner.result c.args.table.now _ _ c.in-Ok.ensures.put) refl refl

pub returns-in-Err-clause-ours : goal.returns-in-Err-clause-ours
returns-in-Err-clause-ours c =
    dealer-same (length c.args.owners.now) c.args.room (seen_by c.args.owners.now)
    c.args.dealer.now _ c.requires.ours c.in-Err.ensures.kept refl
