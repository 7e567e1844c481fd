use Rattle.std.proofs.lemmas.Result.{on_ok_weaker}
use Rattle.mb_keyed.proofs.NearKeys.{gains-then, keys-both}
use Rattle.mb_keyed.proofs.near_keys.push_both.Goals as goal
use Rattle.mb_keyed.specs.loops.Graph.{IsKeyIn}
use Rattle.mb_keyed.specs.loops.Keyed.{digits_in}
use Rattle.mb_rings.proofs.PlacesBelow.{Steps}
use Rattle.mb_tables.specs.Step.{Moved}
use Rattle.mb_tables.specs.declared.sign.Sign.TheVariants.{Minus, Plus}

pub returns : goal.returns
returns c =
    let graph = c.args.graph.now in
    let u = c.args.counts.now in
    let move = c.args.z.now in
    on_ok_weaker c.push_step-2.result
    (gains-then (IsKeyIn graph (Moved Plus u move)) (IsKeyIn graph (Moved Minus u move))
    (IsKeyIn graph (λ v. Steps u v move)) c.args.near.now.items c.push_step.new.near.items
    c.push_step-2.new.near.items
    (keys-both (digits_in graph.fiber) (Moved Plus u move) (Moved Minus u move)
    (λ v. Steps u v move) (λ v k. k) (λ v k. k)) c.in_ok-push_step.ensures)
    c.push_step-2.ensures
