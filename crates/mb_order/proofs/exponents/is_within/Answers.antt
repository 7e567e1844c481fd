use Rattle.std.proofs.Common.{ap, arith, sym, ◌∙◌, ◌≤◌}
use Rattle.std.proofs.lemmas.Nat.Bits.{bit_at-zero}
use Rattle.std.specs.Int.{bit_at, trailing_zeros, w128}
use Rattle.mb_order.proofs.LowestSymbol.{without-less}
use Rattle.mb_order.proofs.VisitedSymbols.{done_at, lowest_place, part_left}
use Rattle.mb_order.proofs.exponents.is_within.Goals as goal
use Rattle.mb_tables.proofs.VectorLaws.{within-no, within-yes}
use Rattle.mb_tables.specs.Vectors.{at}

pub bounds-low-k : goal.bounds-low-k
bounds-low-k c =
    (lowest_place c.args.set c.loop-rest.rest c.args.low.now c.requires.set
    c.loop-rest.invariant.part c.loop-rest-test.true (omega arith)).2

pub bounds-high-k : goal.bounds-high-k
bounds-high-k c =
    let p = lowest_place c.args.set c.loop-rest.rest c.args.low.now c.requires.set
    c.loop-rest.invariant.part c.loop-rest-test.true (omega arith) in
    let l = p.2 in
    let e = c.requires.long in
    omega arith

pub returns-then-low-k : goal.returns-then-low-k
returns-then-low-k c =
    sym (within-no c.args.low.now c.args.high.now (trailing_zeros w128 c.loop-rest.rest)
    (grind arith))

pub loop-rest-smaller : goal.loop-rest-smaller
loop-rest-smaller c =
    let p = lowest_place c.args.set c.loop-rest.rest c.args.low.now c.requires.set
    c.loop-rest.invariant.part c.loop-rest-test.true (omega arith) in
    without-less c.loop-rest.rest (trailing_zeros w128 c.loop-rest.rest) p.0 p.1

pub loop-rest-preserved : goal.loop-rest-preserved
loop-rest-preserved c =
    let p = lowest_place c.args.set c.loop-rest.rest c.args.low.now c.requires.set
    c.loop-rest.invariant.part c.loop-rest-test.true (omega arith) in
    let rest = c.loop-rest.rest in
    let k = trailing_zeros w128 rest in
    record {
      part = λ i.
          let a = part_left rest k p.0 (omega arith) i in
          let b = c.loop-rest.invariant.part i in
          omega arith;
      done = done_at rest k p.0 (omega arith) (λ i. at c.args.low.now i ≤ at c.args.high.now i)
          (λ i out n. c.loop-rest.invariant.done i out) (grind arith);
    }

pub returns : goal.returns
returns c =
    sym (within-yes c.args.low.now c.args.high.now
    (λ k. c.loop-rest.invariant.done k (ap (λ n. bit_at n k) (grind arith) ∙ bit_at-zero k)))
