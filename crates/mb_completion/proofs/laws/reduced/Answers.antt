use Rattle.std.proofs.Common.{length}
use Rattle.mb_completion.proofs.FromClasses.{classes_from_reach, pairs_meet, starts_meet}
use Rattle.mb_completion.proofs.MinimalLefts.{reduced_all_valid, reduced_reach}
use Rattle.mb_completion.proofs.laws.reduced.Goals as goal
use Rattle.mb_order.proofs.OrderLaws.{is_order}
use Rattle.mb_order.proofs.WeightLaws.{symbols-fit}
use Rattle.mb_order.specs.Order.{monomial_cmp}
use Rattle.mb_order.specs.Weight.{symbols}

pub returns : goal.returns
returns c order d columns rules fit h =
    let all = symbols d columns in
    let compare = monomial_cmp order d in
    let ordered = is_order order d (length all) in
    let all_fit = symbols-fit d columns fit in
    let valid = reduced_all_valid d all compare all_fit ordered rules h in
    let reach = reduced_reach d all compare all_fit ordered rules h in
    let meet = classes_from_reach d all compare rules all_fit ordered reach in (
      valid,
      reach,
      pairs_meet d all compare rules all_fit valid meet,
      starts_meet d columns rules
          fit meet,
    )
