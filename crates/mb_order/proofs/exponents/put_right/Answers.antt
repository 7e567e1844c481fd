use Rattle.std.proofs.Common.{arith, refl, set, subst, sym, ℕ, ◌+◌, ◌-◌, ◌∙◌, ◌≡◌}
use Rattle.std.proofs.lemmas.List.{get_or-set_other, get_or-set_same, length-set}
use Rattle.std.specs.Int.{trailing_zeros, w128}
use Rattle.mb_order.proofs.LowestSymbol.{without-less}
use Rattle.mb_order.proofs.VisitedSymbols.{done_at, left_differs, left_place, left_within, neither, other_left, part_left, set_with, set_without}
use Rattle.mb_order.proofs.exponents.put_right.Goals as goal
use Rattle.mb_order.proofs.exponents.put_right.Goals.{else-exponent-gt0, then-exponent-gt0}
use Rattle.mb_order.specs.Symbols.{IsSetOf}
use Rattle.mb_tables.specs.Vectors.{at}

pub loop-rest-init : goal.loop-rest-init
loop-rest-init c = record {
  part = λ i. omega arith;
  done = λ i out.
      let n = neither c.args.set c.args.left.now c.args.right.now i c.requires.touched out in
      let a = n.0 in
      let b = n.1 in
      omega arith;
  left_over = λ i there. refl;
  long = refl;
  occurring = c.requires.occurring;
}

pub bounds-exponents-k : goal.bounds-exponents-k
bounds-exponents-k c =
    left_within _ _ _ _ c.requires.touched c.loop-rest.invariant.part c.loop-rest-test.true
    (omega arith) _ (c.requires.left_long ∙ sym c.loop-rest.invariant.long)
    (c.requires.right_long ∙ sym c.loop-rest.invariant.long)

pub bounds-left-k : goal.bounds-left-k
bounds-left-k c =
    left_within _ _ _ _ c.requires.touched c.loop-rest.invariant.part c.loop-rest-test.true
    (omega arith) _ refl (c.requires.right_long ∙ sym c.requires.left_long)

pub overflow_sub-exponent : goal.overflow_sub-exponent
overflow_sub-exponent c =
    let p = left_place _ _ _ _ c.requires.touched c.loop-rest.invariant.part
    c.loop-rest-test.true (omega arith) in
    let k = trailing_zeros w128 c.loop-rest.rest in
    let a = c.loop-rest.invariant.left_over k p.1 in
    let b = c.requires.divides k in
    omega arith

pub bounds-right-k : goal.bounds-right-k
bounds-right-k c =
    left_within _ _ _ _ c.requires.touched c.loop-rest.invariant.part c.loop-rest-test.true
    (omega arith) _ (c.requires.left_long ∙ sym c.requires.right_long) refl

pub overflow_add-exponent : goal.overflow_add-exponent
overflow_add-exponent c =
    let p = left_place _ _ _ _ c.requires.touched c.loop-rest.invariant.part
    c.loop-rest-test.true (omega arith) in
    let k = trailing_zeros w128 c.loop-rest.rest in
    let a = c.loop-rest.invariant.left_over k p.1 in
    let b = c.requires.small k in
    let d = c.requires.divides k in
    omega arith

pub bounds-exponents-k-in-loop-rest : goal.bounds-exponents-k-in-loop-rest
bounds-exponents-k-in-loop-rest c =
    left_within _ _ _ _ c.requires.touched c.loop-rest.invariant.part c.loop-rest-test.true
    (omega arith) _ (c.requires.left_long ∙ sym c.loop-rest.invariant.long)
    (c.requires.right_long ∙ sym c.loop-rest.invariant.long)

pub loop-rest-smaller : goal.loop-rest-smaller
loop-rest-smaller c =
    let p = left_place _ _ _ _ c.requires.touched c.loop-rest.invariant.part
    c.loop-rest-test.true (omega arith) in
    without-less c.loop-rest.rest (trailing_zeros w128 c.loop-rest.rest) p.0 p.1

pub loop-rest-preserved : goal.loop-rest-preserved
loop-rest-preserved c =
    let p = left_place _ _ _ _ c.requires.touched c.loop-rest.invariant.part
    c.loop-rest-test.true (omega arith) in
    let rest = c.loop-rest.rest in
    let k = trailing_zeros w128 rest in
    let left = c.args.left.now in
    let right = c.args.right.now in
    let old = c.loop-rest.exponents in
    let v = at old k - at left k + at right k in
    let new = set old k v in
    let room = left_within _ _ _ _ c.requires.touched c.loop-rest.invariant.part
    c.loop-rest-test.true (omega arith) old (c.requires.left_long
    ∙ sym c.loop-rest.invariant.long) (c.requires.right_long ∙ sym c.loop-rest.invariant.long) in
    let here : at new k ≡ v = get_or-set_same old k v 0 room in
    let other : (i : ℕ) → (i ≡ k → ⊥) → at new i ≡ at old i =
    λ i n. get_or-set_other old k i v 0 n in
    let same = c.loop-rest.invariant.left_over k p.1 in
    record {
      part = λ i.
          let a = part_left rest k p.0 (omega arith) i in
          let b = c.loop-rest.invariant.part i in
          omega arith;
      done = done_at rest k p.0 (omega arith)
          (λ i. at new i ≡ at right i + (at c.args.exponents.now i - at left i))
          (λ i out n. other i n ∙ c.loop-rest.invariant.done i out)
          (let b = c.requires.divides k in omega arith);
      left_over = λ i there.
          let n = left_differs rest k p.0 (omega arith) i there in
          other i n
          ∙ c.loop-rest.invariant.left_over i
          (sym (other_left rest k p.0 (omega arith) i n) ∙ there);
      long = length-set old k v ∙ c.loop-rest.invariant.long;
      occurring = elim c.if-exponent-gt0.branch [
        | then-exponent-gt0 w ↦
            subst (λ s. IsSetOf s new) (sym w.now-is)
            (set_with c.loop-rest.now k old new p.0 c.loop-rest.invariant.occurring other
            (let a = w.if-exponent-gt0.true in omega arith))
        | else-exponent-gt0 w ↦
            subst (λ s. IsSetOf s new) (sym w.now-is)
            (set_without c.loop-rest.now k old new p.0 (omega arith)
            c.loop-rest.invariant.occurring other
            (let a = w.if-exponent-gt0.false in omega arith))
      ];
    }
