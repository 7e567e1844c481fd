use Rattle.std.proofs.Common.{ap, arith, length, subst, ◌≡◌}
use Rattle.std.proofs.lemmas.List.{length-map}
use Rattle.mb_certificate.specs.Sides.{sides}
use Rattle.mb_checker.proofs.PathLines.{passed-none, path-left, paths-right}
use Rattle.mb_checker.proofs.paths.check_paths.Goals as goal
use Rattle.mb_checker.specs.loops.Taken.{ArePassed}

pub loop-k-init : goal.loop-k-init
loop-k-init c = passed-none c.args.certificate.now (c.rules.ensures.sound).few_paths

pub returns-then-next-paths : goal.returns-then-next-paths
returns-then-next-paths c =
    let parts = c.args.certificate.now in
    let a = ap length c.rules.ensures.rules in
    let b = length-map c.rules.result.now sides in
    let d = ap length c.paths.ensures.paths in
    let e : c.loop-k.k ≡ length parts.rules = omega arith in
    path-left parts c.loop-k.next c.args.line
    (subst (λ k. ArePassed parts k c.loop-k.next) e c.loop-k.invariant)
    (let l = c.if-next-paths.true in omega arith)

pub returns : goal.returns
returns c =
    let parts = c.args.certificate.now in
    let a = ap length c.rules.ensures.rules in
    let b = length-map c.rules.result.now sides in
    let d = ap length c.paths.ensures.paths in
    let e : c.loop-k.k ≡ length parts.rules = omega arith in
    paths-right parts c.loop-k.next c.args.line
    (subst (λ k. ArePassed parts k c.loop-k.next) e c.loop-k.invariant)
    (let l = c.if-next-paths.false in omega arith)
