use Rattle.std.proofs.Common.{arith, refl, rules}
use Rattle.mb_data.specs.CountField.{after_spaces, before_spaces}
use Rattle.mb_data.proofs.Spaces.{next_up_to}
use Rattle.mb_data.proofs.count_field.drop_spaces.Goals as goal

-- src/count_field.rt:31:5
pub loop-place-init : goal.loop-place-init
unfolding after_spaces before_spaces
loop-place-init c = (refl, omega arith)

-- src/count_field.rt:31:5
pub loop-place-preserved : goal.loop-place-preserved
loop-place-preserved c =
    next_up_to c.args.field.now c.loop-place.kept c.loop-place.place c.kept_after-kept.result
    (search rules) c.loop-place.invariant (search rules)
