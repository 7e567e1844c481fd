use Rattle.std.proofs.Common.{get_or, map, ℕ, ◌<◌, ◌≡◌}
use Rattle.std.specs.declared.cmp.Ordering.TheVariants.{Less}
use Rattle.mb_completion.proofs.reduction.place_of.Given as goal
use Rattle.mb_order.specs.Order.{monomial_cmp}
use Rattle.mb_rules.proofs.RulesInCode.{no_rule}
use Rattle.mb_rules.specs.Sides.{sides}

abbrev pub invariant-loop-place : goal.invariant-loop-place
invariant-loop-place l =
    (i : ℕ) → i < l.place →
    monomial_cmp l.fn.order l.left.margins (get_or (map sides l.kept) i no_rule).0 l.left.list
    ≡ Less
