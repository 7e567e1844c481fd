use Rattle.std.proofs.Common.{ap, map, subst, sym, ◌∙◌}
use Rattle.mb_completion.proofs.KeptPlaces.{insert-map, insert-only, insert_put, insert_there}
use Rattle.mb_completion.proofs.reduction.insert.Goals as goal
use Rattle.mb_rules.specs.Sides.{sides}
use Rattle.mb_tables.specs.Lists.{In}

pub returns-then-has_left-clause-put : goal.returns-then-has_left-clause-put
returns-then-has_left-clause-put c =
    sym (insert_there c.args.order c.args.kept.now.items c.as_slice.result.now
    c.as_slice-2.result.now c.args.rule c.place_of-place.result
    c.as_slice.ensures.value c.as_slice-2.ensures.value c.if-has_left.ensures.there
    c.place_of-place.ensures.below c.if-has_left.ensures.equal)

pub returns-clause-put : goal.returns-clause-put
returns-clause-put c =
    ap (map sides) c.in_ok-insert.ensures.items
    ∙ insert-map c.args.kept.now.items c.place_of-place.result c.args.rule
    ∙ sym (insert_put c.args.order c.args.kept.now.items c.as_slice.result.now
    c.as_slice-2.result.now c.args.rule c.place_of-place.result
    c.as_slice.ensures.value c.as_slice-2.ensures.value c.place_of-place.ensures.within
    c.place_of-place.ensures.below c.if-has_left.ensures.later)

pub returns-clause-members : goal.returns-clause-members
returns-clause-members c other i =
    insert-only c.args.kept.now.items c.place_of-place.result c.args.rule other
    (subst (In other) c.in_ok-insert.ensures.items i)
