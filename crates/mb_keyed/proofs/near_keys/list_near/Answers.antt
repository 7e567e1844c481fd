use Rattle.std.proofs.Common.{ap, arith, ◌∙◌}
use Rattle.mb_keyed.proofs.KeyedClaims.{step-at, step-keyed}
use Rattle.mb_keyed.proofs.NearKeys.{listed-all, listed-move, listed-none}
use Rattle.mb_keyed.proofs.near_keys.list_near.Goals as goal
use Rattle.mb_keyed.specs.loops.Keyed.{digits_in}
use Rattle.mb_rings.proofs.PlacesBelow.{get-there}
use Rattle.mb_tables.specs.Rows.{Rows}

pub loop-k-init : goal.loop-k-init
loop-k-init c =
    listed-none (digits_in c.args.graph.now.fiber) c.as_slice-z-items.result.now c.args.counts.now
    c.clear.new.self.items c.clear.ensures.items

pub push_both-requires-clause-step : goal.push_both-requires-clause-step
push_both-requires-clause-step c =
    let graph = c.args.graph.now in
    let same = c.as_slice-z-items.ensures.moves ∙ ap (λ (z : Rows). z.rows) c.moves.ensures in
    step-at (digits_in graph.fiber) graph.moves.width _ graph.moves.rows
    c.as_slice-z-items.result.now c.steps-steps.result.now c.as_slice-list.result.now
    c.as_slice-needs.result.now c.loop-k.k c.z-item.result _ c.steps-steps.ensures same
    c.requires.keyed.cells c.as_slice-list.ensures.value c.as_slice-needs.ensures.value
    (get-there c.as_slice-z-items.result.now c.loop-k.k c.z-item.result (omega arith) c.z-item.is)

pub push_both-requires-clause-keyed : goal.push_both-requires-clause-keyed
push_both-requires-clause-keyed c v a =
    let graph = c.args.graph.now in
    let same = c.as_slice-z-items.ensures.moves ∙ ap (λ (z : Rows). z.rows) c.moves.ensures in
    step-keyed (digits_in graph.fiber) graph.moves.width graph.moves.rows
    c.as_slice-z-items.result.now c.args.counts.now c.loop-k.k c.z-item.result c.requires.keyed
    same
    (get-there c.as_slice-z-items.result.now c.loop-k.k c.z-item.result (omega arith) c.z-item.is)
    v a

pub loop-k-preserved : goal.loop-k-preserved
loop-k-preserved c =
    listed-move (digits_in c.args.graph.now.fiber) c.as_slice-z-items.result.now c.loop-k.k
    c.z-item.result c.args.counts.now c.loop-k.near.items c.push_both.new.near.items
    (get-there c.as_slice-z-items.result.now c.loop-k.k c.z-item.result (omega arith) c.z-item.is)
    c.loop-k.invariant c.in_ok-push_both.ensures

pub returns : goal.returns
returns c =
    let graph = c.args.graph.now in
    let same = c.as_slice-z-items.ensures.moves ∙ ap (λ (z : Rows). z.rows) c.moves.ensures in
    listed-all (digits_in graph.fiber) graph.moves.rows c.as_slice-z-items.result.now c.loop-k.k
    c.args.counts.now c.loop-k.near.items same (omega arith) c.loop-k.invariant
