use Rattle.std.proofs.Common.{arith}
use Rattle.mb_order.proofs.SymbolSets.{set-none, set-place}
use Rattle.mb_order.proofs.exponents.set_of.Goals as goal
use Rattle.mb_order.proofs.exponents.set_of.Goals.{else-exponent-gt0, then-exponent-gt0}

pub loop-k-preserved : goal.loop-k-preserved
loop-k-preserved c =
    let k = c.loop-k.k in
    let u = c.args.exponents.now in
    elim c.if-exponent-gt0.branch [
      | then-exponent-gt0 w ↦ (
          let p = set-place c.loop-k.set c.if-exponent-gt0.set u k
          (grind arith) w.if-exponent-gt0.true c.loop-k.invariant.done c.loop-k.invariant.none
          w.set-is in
          record { done = p.0; none = p.1 })
      | else-exponent-gt0 w ↦ (
          let p = set-none c.loop-k.set c.if-exponent-gt0.set u k w.if-exponent-gt0.false
          c.loop-k.invariant.done c.loop-k.invariant.none w.set-is in
          record { done = p.0; none = p.1 })
    ]
