-- The figures are those of an exact test.
use Rattle.std.proofs.Common.{List, ap, length, map, sym, ℕ, ◌∙◌}
use Rattle.mb_desk.proofs.FiberTests.{figures-test}
use Rattle.mb_desk.proofs.GenerateInversions.{narrow_ok}
use Rattle.mb_desk.specs.ExactTest.{weighed_fraction}
use Rattle.mb_weights.specs.PValue.{exact_p_value}
use Rattle.mb_desk.proofs.exact_test.numbers.Goals as goal

pub returns-clause-test : goal.returns-clause-test
returns-clause-test g c =
    figures-test c.args.certificate.now c.matrix-parts.ensures.sound c.in_ok-accept.ensures.valid
    c.args.observed.now c.requires.cells c.args.measure.now
    (record {
      rings = c.in_ok-sizes.sizes;
      weight = c.in_ok-weighed.weighed.weight;
      below = c.in_ok-weighed.weighed.below;
      whole = c.in_ok-weighed.weighed.whole;
      claims = c.into_claims.result;
    })
    (c.in_ok-sizes.ensures ∙ ap (map (length {A = List ℕ})) c.in_ok-rings.ensures.rings)
    (sym (narrow_ok
    (exact_p_value c.args.certificate.now.matrix c.args.measure.now c.args.observed.now)
    (weighed_fraction c.in_ok-weighed.weighed) c.in_ok-weighed.ensures.fraction))
