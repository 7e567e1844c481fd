use Rattle.std.proofs.Common.{rules, sym, ◌∙◌}
use Rattle.mb_data.proofs.Spaces.{nothing_after, other_at, space_at}
use Rattle.mb_data.proofs.count_field.skip_spaces.Goals as goal

-- src/count_field.rt:7:1
pub returns-then-b-ne32 : goal.returns-then-b-ne32
returns-then-b-ne32 c =
    c.split_at.ensures.back
    ∙ sym (other_at c.args.field.now c.loop-place.place (search rules) (search rules))
    ∙ c.loop-place.invariant

-- src/count_field.rt:10:5
pub loop-place-preserved : goal.loop-place-preserved
loop-place-preserved c =
    space_at c.args.field.now c.loop-place.place (search rules) (search rules)
    ∙ c.loop-place.invariant

-- src/count_field.rt:7:1
pub returns : goal.returns
returns c =
    sym (nothing_after c.args.field.now c.loop-place.place (search rules) c.loop-place.invariant)
