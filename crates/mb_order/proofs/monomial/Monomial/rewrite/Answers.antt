use Rattle.std.proofs.Common.{ap, arith, length, true, ◌∙◌, ◌≡◌}
use Rattle.std.proofs.lemmas.Grind.{common_steps}
use Rattle.mb_order.proofs.ExponentLaws.{at-seen, greater-set, made-at, made-each, written}
use Rattle.mb_order.proofs.monomial.Monomial.rewrite.Goals as goal
use Rattle.mb_order.specs.Monomial.{Exponents}
use Rattle.mb_tables.proofs.VectorLaws.{within-at}
use Rattle.mb_tables.specs.Vectors.{greater, within}

pub put_right-self-inside-requires-clause-touched :
    goal.put_right-self-inside-requires-clause-touched
put_right-self-inside-requires-clause-touched c =
    let a = c.left.inside.exponents.items in
    let b = c.right.inside.exponents.items in
    greater-set c.left.inside.set c.right.inside.set
    (greater c.as_slice.result.now c.as_slice-2.result.now) a b
    (ap (λ u. greater u c.as_slice-2.result.now) c.as_slice.ensures.value
    ∙ ap (greater a) c.as_slice-2.ensures.value)
    c.left.invariant.occurring c.right.invariant.occurring

pub put_right-self-inside-requires-clause-divides :
    goal.put_right-self-inside-requires-clause-divides
put_right-self-inside-requires-clause-divides c k =
    let f : within c.args.left.now.list c.args.self.now.list ≡ true =
    grind (arith, common_steps) in
    let w = within-at c.args.left.now.list c.args.self.now.list f k in
    let p = at-seen _ _ _ k c.as_mut_slice.ensures.value c.self.view_is in
    let q = at-seen _ _ _ k c.as_slice.ensures.value c.left.view_is in
    omega arith

pub put_right-self-inside-requires-clause-small :
    goal.put_right-self-inside-requires-clause-small
put_right-self-inside-requires-clause-small c k =
    let f : within c.args.left.now.list c.args.self.now.list ≡ true =
    grind (arith, common_steps) in
    let w = c.requires.small f k in
    let z = made-at c.args.left.now.list c.args.right.now.list c.args.self.now.list k in
    let p = at-seen _ _ _ k c.as_mut_slice.ensures.value c.self.view_is in
    let q = at-seen _ _ _ k c.as_slice.ensures.value c.left.view_is in
    let s = at-seen _ _ _ k c.as_slice-2.ensures.value c.right.view_is in
    omega arith

pub returns-clause-made : goal.returns-clause-made
returns-clause-made c =
    let new = c.put_right-self-inside.new.exponents in
    let long : length new ≡ length c.as_mut_slice.result.now = grind (arith, common_steps) in
    written c.self.inside.exponents.len new c.self.inside.exponents.items
    (long ∙ ap length c.as_mut_slice.ensures.value) (grind (arith, common_steps))
    ∙ made-each new c.args.left.now.list c.args.right.now.list c.args.self.now.list
    (long ∙ ap length c.as_mut_slice.ensures.value
    ∙ ap (λ (x : Exponents). length x.list) c.self.view_is)
    c.requires.left_shape.symbols c.requires.right_shape.symbols
    (λ k h.
    let e = c.put_right-self-inside.ensures.each k in
    let p = at-seen _ _ _ k c.as_mut_slice.ensures.value c.self.view_is in
    let q = at-seen _ _ _ k c.as_slice.ensures.value c.left.view_is in
    let s = at-seen _ _ _ k c.as_slice-2.ensures.value c.right.view_is in
    omega arith)
