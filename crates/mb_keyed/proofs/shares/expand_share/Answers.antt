use Rattle.std.proofs.Common.{arith}
use Rattle.mb_keyed.proofs.KeyedClaims.{claimed-no_table, claimed-place, claimed-ring}
use Rattle.mb_keyed.proofs.shares.expand_share.Goals as goal
use Rattle.mb_keyed.specs.loops.Keyed.{digits_in}
use Rattle.mb_rings.proofs.PlacesBelow.{get-there}
use Rattle.mb_tables.proofs.ListLaws.{place-in}

pub loop-place-init : goal.loop-place-init
loop-place-init g c =
    let graph = c.args.graph.now in (
      c.requires.ours,
      claimed-no_table (digits_in graph.fiber) graph.moves.rows c.args.share.now c.args.worker.now,
    )

pub expand_table-requires-clause-keyed : goal.expand_table-requires-clause-keyed
expand_table-requires-clause-keyed g c =
    c.requires.keyed c.index-share-place.result
    (place-in c.args.share.now c.loop-place.place c.index-share-place.result
    (get-there c.args.share.now c.loop-place.place c.index-share-place.result (omega arith)
    c.index-share-place.is))

pub loop-place-preserved : goal.loop-place-preserved
loop-place-preserved g c =
    let graph = c.args.graph.now in (
      c.expand_table.ensures.ours,
      claimed-place (digits_in graph.fiber) graph.moves.rows c.args.share.now c.loop-place.place
          c.index-share-place.result
          (get-there c.args.share.now c.loop-place.place c.index-share-place.result (omega arith)
          c.index-share-place.is)
          c.args.worker.now c.loop-place.worker c.expand_table.new.worker c.loop-place.invariant.1
          c.expand_table.ensures.claimed,
    )

pub returns-clause-claimed : goal.returns-clause-claimed
returns-clause-claimed g c =
    let graph = c.args.graph.now in
    claimed-ring (digits_in graph.fiber) graph.moves.rows c.args.share.now c.loop-place.place
    c.args.worker.now c.loop-place.worker (omega arith) c.loop-place.invariant.1
