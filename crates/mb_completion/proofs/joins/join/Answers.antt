use Rattle.std.proofs.Common.{ap, ◌∙◌}
use Rattle.mb_completion.proofs.LookSteps.{left_divides, right_divides}
use Rattle.mb_completion.proofs.joins.join.Goals as goal
use Rattle.mb_order.specs.Monomial.{Exponents}
use Rattle.mb_order.specs.Peak.{left_of}

pub rewrite-requires-clause-divides : goal.rewrite-requires-clause-divides
rewrite-requires-clause-divides c =
    left_divides (left_of c.args.rules.now.rules c.args.i) (left_of c.args.rules.now.rules c.args.j)
    c.in_ok-p.p.list
    (ap (λ (m : Exponents). m.list) c.in_ok-p.ensures ∙ c.in_ok-q.ensures.peak)

pub rewrite-requires-2-clause-divides : goal.rewrite-requires-2-clause-divides
rewrite-requires-2-clause-divides c =
    right_divides (left_of c.args.rules.now.rules c.args.i)
    (left_of c.args.rules.now.rules c.args.j) c.in_ok-q.q.list c.in_ok-q.ensures.peak
