use Rattle.std.proofs.Common.{Some, ap, arith, length, slice_get, sym, ◌<◌, ◌∙◌, ◌≡◌}
use Rattle.mb_checker.proofs.PathLines.{path-other, path-same, rule-left}
use Rattle.mb_checker.proofs.JudgedLines.{item-get}
use Rattle.mb_checker.proofs.paths.path_fault.Goals as goal

pub returns-then-next-paths-clause-line : goal.returns-then-next-paths-clause-line
returns-then-next-paths-clause-line c =
    let parts = c.args.certificate.now in
    let a = ap length c.paths-paths.ensures.paths in
    let b = c.if-next-paths.true in
    let e : c.args.next ≡ length parts.paths = omega arith in
    rule-left parts c.args.k c.args.next c.requires.turn e

pub returns-then-not-is_of-clause-line : goal.returns-then-not-is_of-clause-line
returns-then-not-is_of-clause-line c =
    let parts = c.args.certificate.now in
    let paths = c.paths-paths.result.now in
    let a = ap length c.paths-paths.ensures.paths in
    let b = c.if-next-paths.false in
    let d = c.requires.next in
    let l : c.args.next < length paths = grind arith in
    let here = ap (λ xs. slice_get xs c.args.next) (sym c.paths-paths.ensures.paths)
    ∙ item-get paths c.args.next c.index-paths-next.result l c.index-paths-next.is in
    path-other parts c.args.k c.args.next c.requires.turn c.index-paths-next.result
    here (sym c.is_of.ensures ∙ c.if-not-is_of.true)

pub returns-clause-line : goal.returns-clause-line
returns-clause-line c =
    let parts = c.args.certificate.now in
    let paths = c.paths-paths.result.now in
    let a = ap length c.paths-paths.ensures.paths in
    let b = c.if-next-paths.false in
    let d = c.requires.next in
    let l : c.args.next < length paths = grind arith in
    let here = ap (λ xs. slice_get xs c.args.next) (sym c.paths-paths.ensures.paths)
    ∙ item-get paths c.args.next c.index-paths-next.result l c.index-paths-next.is in
    path-same parts c.args.k c.args.next c.requires.turn c.index-paths-next.result
    here (sym c.is_of.ensures ∙ c.if-not-is_of.false) ∙ ap Some (sym c.in_ok-steps_fault.ensures)
