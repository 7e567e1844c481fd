use Rattle.std.proofs.Common.{ap, arith, length, subst, sym, ◌∙◌, ◌≡◌}
use Rattle.std.proofs.lemmas.Grind.{common_steps}
use Rattle.std.specs.Int.Bits.{bit_or}
use Rattle.mb_order.proofs.ExponentLaws.{greater-set, written}
use Rattle.mb_order.proofs.monomial.Monomial.raise_to_lcm.Goals as goal
use Rattle.mb_order.specs.Monomial.{Exponents}
use Rattle.mb_order.specs.Symbols.{IsMonomial}
use Rattle.mb_tables.proofs.VectorLaws.{length-greater}
use Rattle.mb_tables.specs.Vectors.{greater}

pub invariant_of-self : goal.invariant_of-self
invariant_of-self c =
    let a = c.self.inside.exponents.items in
    let b = c.other.inside.exponents.items in
    let new = c.raise.new.exponents in
    let e : new ≡ greater a b =
    c.raise.ensures ∙ ap (λ u. greater u c.as_slice.result.now) c.as_mut_slice.ensures.value
    ∙ ap (greater a) c.as_slice.ensures.value in
    let first = ap (λ (m : Exponents). length m.list) c.self.view_is in
    let second = ap (λ (m : Exponents). length m.list) c.other.view_is in
    let long : length new ≡ length a = ap length e
    ∙ (let f = c.requires.symbols in omega (arith, length-greater a b)) in
    let s = c.self.invariant.shape in
    let x = s.some_cells in
    let y = s.few_cells in
    subst (λ list. IsMonomial (record { margins = c.self.inside.margins; list = list })
    (bit_or c.self.inside.set c.other.inside.set))
    (sym (written c.self.inside.exponents.len new a long (grind (arith, common_steps))))
    (record {
      shape = record {
        some_margins = s.some_margins;
        few_margins = s.few_margins;
        some_cells = omega arith;
        few_cells = omega arith;
      };
      occurring =
          greater-set c.self.inside.set c.other.inside.set new a b e c.self.invariant.occurring
          c.other.invariant.occurring;
    })
