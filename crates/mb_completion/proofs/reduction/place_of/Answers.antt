use Rattle.std.proofs.Common.{ap, arith, get_or, inl, inr, map, ◌<◌, ◌∙◌, ◌≡◌, ◌⊎◌}
use Rattle.std.specs.declared.cmp.Ordering.TheVariants.{Equal, Greater, Less}
use Rattle.mb_completion.proofs.KeptPlaces.{compare_at, there}
use Rattle.mb_completion.proofs.reduction.place_of.Goals as goal
use Rattle.mb_order.specs.Order.{monomial_cmp}
use Rattle.mb_rules.proofs.RulesInCode.{no_rule}
use Rattle.mb_rules.specs.Sides.{sides}

pub compare-requires : goal.compare-requires
compare-requires c =
    c.requires c.index-kept-place.result
    (there c.args.kept.now c.loop-place.place c.index-kept-place.result c.loop-place-test.true
    c.index-kept-place.is)

pub returns-in-Equal-clause-above : goal.returns-in-Equal-clause-above
returns-in-Equal-clause-above c h e =
    let shape =
    c.requires c.index-kept-place.result
    (there c.args.kept.now c.loop-place.place c.index-kept-place.result c.loop-place-test.true
    c.index-kept-place.is) in
    let f = compare_at c.args.order c.args.kept.now c.loop-place.place c.index-kept-place.result
    c.args.left.now c.compare.result Equal c.loop-place-test.true c.index-kept-place.is shape
    c.compare.ensures c.in-Equal.is in
    cc

pub returns-in-Greater-clause-above : goal.returns-in-Greater-clause-above
returns-in-Greater-clause-above c h e =
    let shape =
    c.requires c.index-kept-place.result
    (there c.args.kept.now c.loop-place.place c.index-kept-place.result c.loop-place-test.true
    c.index-kept-place.is) in
    let f = compare_at c.args.order c.args.kept.now c.loop-place.place c.index-kept-place.result
    c.args.left.now c.compare.result Greater c.loop-place-test.true c.index-kept-place.is shape
    c.compare.ensures c.in-Greater.is in
    cc

pub loop-place-preserved : goal.loop-place-preserved
loop-place-preserved c i h =
    let shape =
    c.requires c.index-kept-place.result
    (there c.args.kept.now c.loop-place.place c.index-kept-place.result c.loop-place-test.true
    c.index-kept-place.is) in
    let f = compare_at c.args.order c.args.kept.now c.loop-place.place c.index-kept-place.result
    c.args.left.now c.compare.result Less c.loop-place-test.true c.index-kept-place.is shape
    c.compare.ensures c.in-Less.is in
    let cases : (i < c.loop-place.place) ⊎ (i ≡ c.loop-place.place) = grind arith in
    elim cases [
      | inl l ↦ c.loop-place.invariant i l
      | inr e ↦
          ap (λ k.
          monomial_cmp c.args.order c.args.left.now.margins
          (get_or (map sides c.args.kept.now) k no_rule).0 c.args.left.now.list) e ∙ f
    ]
