use Rattle.std.proofs.Common.{ap, arith, length, rules, subst, ◌≡◌}
use Rattle.std.proofs.lemmas.List.{length-map}
use Rattle.mb_certificate.specs.Sides.{sides}
use Rattle.mb_checker.proofs.JoinLines.{join-left, joins-right, met-none}
use Rattle.mb_checker.proofs.joins.check_joins.Goals as goal
use Rattle.mb_checker.specs.loops.Joined.{AreMet}

pub loop-high-init : goal.loop-high-init
loop-high-init c = record {
  met = met-none c.args.certificate.now (c.rules.ensures.sound).few_joins;
  p_shape = search rules;
  q_shape = search rules;
}

pub returns-then-next-joins : goal.returns-then-next-joins
returns-then-next-joins c =
    let parts = c.args.certificate.now in
    let a = ap length c.rules.ensures.rules in
    let b = length-map c.rules.result.now sides in
    let d = ap length c.joins.ensures.joins in
    let e : c.loop-high.high ≡ length parts.rules = omega arith in
    join-left parts c.loop-high.next c.args.line
    (subst (λ j. AreMet parts 0 j c.loop-high.next) e c.loop-high.invariant.met)
    (let l = c.if-next-joins.true in omega arith)

pub returns : goal.returns
returns c =
    let parts = c.args.certificate.now in
    let a = ap length c.rules.ensures.rules in
    let b = length-map c.rules.result.now sides in
    let d = ap length c.joins.ensures.joins in
    let e : c.loop-high.high ≡ length parts.rules = omega arith in
    joins-right parts c.loop-high.next c.args.line
    (subst (λ j. AreMet parts 0 j c.loop-high.next) e c.loop-high.invariant.met)
    (let l = c.if-next-joins.false in omega arith)
