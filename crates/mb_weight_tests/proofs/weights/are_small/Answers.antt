use Rattle.std.proofs.Common.{Global, List, Vec, ap, arith, length, subst, ℕ, ◌<◌, ◌^◌}
use Rattle.std.proofs.lemmas.List.{take_all}
use Rattle.std.proofs.lemmas.List.Elements.{All-more}
use Rattle.mb_weight_tests.proofs.weights.are_small.Goals as goal
use Rattle.mb_weights.specs.PValue.{AreSmall}

pub loop-ring-preserved : goal.loop-ring-preserved
loop-ring-preserved c =
    let same = ap (λ (ring : Vec (List ℕ) Global). length ring.items) c.ring-item.is in
    All-more (λ (ring : Vec (List ℕ) Global). length ring.items < 2 ^ 32) c.args.rings.now
    c.loop-ring.ring-index c.ring-item.result (omega arith) c.loop-ring.invariant
    (omega (arith, same, c.len.ensures, c.ring-item.result.ok.0))

pub returns : goal.returns
returns c =
    subst AreSmall (take_all c.loop-ring.ring-index c.args.rings.now (omega arith))
    c.loop-ring.invariant
