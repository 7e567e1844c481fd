use Rattle.std.proofs.Common.{false, length, subst, sym, true, ◌∙◌, ◌≡◌}
use Rattle.mb_rings.proofs.RingShares.{In-share}
use Rattle.mb_rings.specs.Share.{share_of}
use Rattle.mb_tables.specs.Lists.{In}
use Rattle.mb_tables.specs.Step.{IsNear}
use Rattle.mb_walk.proofs.DealtRings.{dealer-none, has-dealt, has-none, has-same, idle-none, no-share}
use Rattle.mb_walk.specs.loops.Piles.{HasDealt, IsDealer, seen_by}
use Rattle.mb_walk.proofs.deal_ring.work.Goals as goal
use Rattle.mb_walk.proofs.deal_ring.work.Goals.{else-not-is_empty-via-then-not-is_empty+else-lay_out, else-not-is_empty-via-else-not-is_empty}

pub deal_share-requires-clause-widths : goal.deal_share-requires-clause-widths
deal_share-requires-clause-widths g c u i =
    c.requires.widths u
    (In-share c.args.ring.now c.args.number c.args.count u
    (subst (In u) c.share_of-from.ensures.share i))

pub deal_share-requires-clause-ours : goal.deal_share-requires-clause-ours
deal_share-requires-clause-ours g c =
    dealer-none c.args.room (seen_by c.args.owners.now) (length c.args.owners.now)
    c.lay_out.new.dealer c.lay_out.ensures.none c.lay_out.ensures.count

pub returns-then-lay_out-clause-dealt : goal.returns-then-lay_out-clause-dealt
returns-then-lay_out-clause-dealt g c =
    has-same c.args.room (seen_by c.args.owners.now) c.args.moves.now.rows
    c.share_of-from.result.1.now (share_of c.args.ring.now c.args.number c.args.count)
    c.deal_share.new.dealer c.share_of-from.ensures.share
    (has-dealt c.args.room (seen_by c.args.owners.now)
    (IsNear c.args.moves.now.rows c.share_of-from.result.1.now) c.lay_out.new.dealer
    c.deal_share.new.dealer c.lay_out.ensures.none c.deal_share.ensures.dealt)

pub returns-else-not-is_empty-clause-ours : goal.returns-else-not-is_empty-clause-ours
returns-else-not-is_empty-clause-ours g c =
    elim c.else-not-is_empty.branch [
      | else-not-is_empty-via-then-not-is_empty+else-lay_out w ↦
          subst (IsDealer (length c.args.owners.now) c.args.room (seen_by c.args.owners.now))
          (sym w.dealer-is)
          (dealer-none c.args.room (seen_by c.args.owners.now) (length c.args.owners.now)
          w.lay_out.new.dealer w.lay_out.ensures.none w.lay_out.ensures.count)
      | else-not-is_empty-via-else-not-is_empty w ↦
          subst (IsDealer (length c.args.owners.now) c.args.room (seen_by c.args.owners.now))
          (sym w.dealer-is)
          (dealer-none c.args.room (seen_by c.args.owners.now) (length c.args.owners.now)
          c.args.dealer.now (idle-none c.args.dealer.now c.requires.idle) c.requires.idle.count)
    ]

pub returns-else-not-is_empty-clause-dealt : goal.returns-else-not-is_empty-clause-dealt
returns-else-not-is_empty-clause-dealt g c =
    elim c.else-not-is_empty.branch [
      | else-not-is_empty-via-then-not-is_empty+else-lay_out w ↦
          subst (HasDealt c.args.room (seen_by c.args.owners.now)
          (IsNear c.args.moves.now.rows (share_of c.args.ring.now c.args.number c.args.count)))
          (sym w.dealer-is)
          (has-none c.args.room (seen_by c.args.owners.now)
          (IsNear c.args.moves.now.rows (share_of c.args.ring.now c.args.number c.args.count))
          w.lay_out.new.dealer w.lay_out.ensures.none
          (λ whole v near.
          let e : true ≡ false = sym w.if-lay_out.ensures.short ∙ whole.long in cc))
      | else-not-is_empty-via-else-not-is_empty w ↦
          subst (HasDealt c.args.room (seen_by c.args.owners.now)
          (IsNear c.args.moves.now.rows (share_of c.args.ring.now c.args.number c.args.count)))
          (sym w.dealer-is)
          (has-none c.args.room (seen_by c.args.owners.now)
          (IsNear c.args.moves.now.rows (share_of c.args.ring.now c.args.number c.args.count))
          c.args.dealer.now (idle-none c.args.dealer.now c.requires.idle)
          (λ whole v near.
          no-share c.share_of-from.result.1.now near.0 w.if-not-is_empty.ensures
          (subst (In near.0) (sym c.share_of-from.ensures.share) near.1)))
    ]
