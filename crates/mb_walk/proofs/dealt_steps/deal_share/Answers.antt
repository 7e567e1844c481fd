use Rattle.std.proofs.Common.{arith}
use Rattle.mb_rings.proofs.PlacesBelow.{get-there}
use Rattle.mb_tables.proofs.ListLaws.{place-in}
use Rattle.mb_walk.proofs.DealSteps.{dealt-no_table, dealt-place, dealt-share}
use Rattle.mb_walk.specs.loops.Piles.{seen_by}
use Rattle.mb_walk.proofs.dealt_steps.deal_share.Goals as goal

pub loop-place-init : goal.loop-place-init
loop-place-init g c = (
  c.requires.ours,
  c.requires.ready,
  dealt-no_table c.args.room (seen_by c.args.owners.now) c.args.moves.now.rows c.args.share.now
      c.args.dealer.now,
)

pub deal_table-requires-clause-width : goal.deal_table-requires-clause-width
deal_table-requires-clause-width g c =
    c.requires.widths c.index-share-place.result
    (place-in c.args.share.now c.loop-place.place c.index-share-place.result
    (get-there c.args.share.now c.loop-place.place c.index-share-place.result (omega arith)
    c.index-share-place.is))

pub loop-place-preserved : goal.loop-place-preserved
loop-place-preserved g c = (
  c.deal_table.ensures.ours,
  c.deal_table.ensures.ready,
  dealt-place c.args.room (seen_by c.args.owners.now) c.args.moves.now.rows c.args.share.now
      c.loop-place.place c.index-share-place.result
      (get-there c.args.share.now c.loop-place.place c.index-share-place.result (omega arith)
      c.index-share-place.is)
      c.args.dealer.now c.loop-place.dealer c.deal_table.new.dealer c.loop-place.invariant.2
      c.deal_table.ensures.dealt,
)

pub returns-clause-dealt : goal.returns-clause-dealt
returns-clause-dealt g c =
    dealt-share c.args.room (seen_by c.args.owners.now) c.args.moves.now.rows c.args.share.now
    c.loop-place.place c.args.dealer.now c.loop-place.dealer (omega arith)
    c.loop-place.invariant.2
