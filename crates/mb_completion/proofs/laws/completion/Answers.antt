use Rattle.std.proofs.Common.{length, ◌+◌}
use Rattle.mb_completion.proofs.laws.completion.Goals as goal
use Rattle.mb_order.proofs.OrderLaws.{eliminates, is_order}
use Rattle.mb_order.proofs.WeightLaws.{symbols-fit}
use Rattle.mb_order.specs.Order.{monomial_cmp}
use Rattle.mb_order.specs.Weight.{symbols}
use Rattle.mb_rules.proofs.ClassesOfWeight.{classes_meet}
use Rattle.mb_rules.proofs.LeastOfClass.{irreducible_least, reach_least}

pub returns : goal.returns
returns c order d columns rules fit valid pairs starts =
    let all = symbols d columns in
    let compare = monomial_cmp order d in
    let meet =
    classes_meet d columns compare rules fit (is_order order d (d + length columns))
    (eliminates order d (d + length columns)) valid pairs starts in
    let ordered = is_order order d (length all) in
    let all_fit = symbols-fit d columns fit in
    let reach = reach_least d all compare all_fit ordered rules valid meet in
    (reach, irreducible_least d all compare all_fit ordered rules valid reach)
