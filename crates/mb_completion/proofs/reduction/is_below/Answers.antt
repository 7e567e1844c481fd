use Rattle.std.proofs.Common.{ap, length, sym, ◌∙◌}
use Rattle.mb_completion.proofs.KeptRules.{unless_same}
use Rattle.mb_completion.proofs.reduction.is_below.Goals as goal
use Rattle.mb_order.proofs.PeakLaws.{left-is}
use Rattle.mb_order.specs.Peak.{left_of}
use Rattle.mb_rules.specs.Sides.{sides}
use Rattle.mb_tables.specs.Vectors.{within}

pub returns-clause-same : goal.returns-clause-same
returns-clause-same c =
    let rules = c.args.rules.now.rules in
    let a = left-is rules c.args.q (sides c.get-divisor.result.now) c.get-divisor.ensures.rule in
    let b = left-is rules c.args.k (sides c.get-rule.result.now) c.get-rule.ensures.rule in
    let long = ap length a ∙ c.get-divisor.ensures.shape.left.symbols
    ∙ sym c.get-rule.ensures.shape.left.symbols ∙ sym (ap length b) in
    unless_same c.divides-2.result (left_of rules c.args.q) (left_of rules c.args.k) long
    (c.divides-2.ensures ∙ ap (λ u. within u c.get-divisor.result.now.left.list) (sym b)
    ∙ ap (within (left_of rules c.args.k)) (sym a))
