use Rattle.std.proofs.Common.{Some, ap, arith, length, slice_get, sym, ◌<◌, ◌∙◌, ◌≡◌}
use Rattle.mb_checker.proofs.JoinLines.{pair-left, pair-other, pair-same}
use Rattle.mb_checker.proofs.JudgedLines.{item-get}
use Rattle.mb_checker.proofs.joins.pair_fault.Goals as goal

pub returns-then-next-joins-clause-line : goal.returns-then-next-joins-clause-line
returns-then-next-joins-clause-line c =
    let parts = c.args.certificate.now in
    let a = ap length c.joins-joins.ensures.joins in
    let b = c.if-next-joins.true in
    let e : c.args.next ≡ length parts.joins = omega arith in
    pair-left parts c.args.low c.args.high c.args.next c.requires.turn e

pub returns-then-not-is_of-clause-line : goal.returns-then-not-is_of-clause-line
returns-then-not-is_of-clause-line c =
    let parts = c.args.certificate.now in
    let joins = c.joins-joins.result.now in
    let a = ap length c.joins-joins.ensures.joins in
    let b = c.if-next-joins.false in
    let d = c.requires.next in
    let l : c.args.next < length joins = grind arith in
    let here = ap (λ xs. slice_get xs c.args.next) (sym c.joins-joins.ensures.joins)
    ∙ item-get joins c.args.next c.index-joins-next.result l c.index-joins-next.is in
    pair-other parts c.args.low c.args.high c.args.next c.requires.turn c.index-joins-next.result
    here (sym c.is_of.ensures ∙ c.if-not-is_of.true)

pub returns-clause-line : goal.returns-clause-line
returns-clause-line c =
    let parts = c.args.certificate.now in
    let joins = c.joins-joins.result.now in
    let a = ap length c.joins-joins.ensures.joins in
    let b = c.if-next-joins.false in
    let d = c.requires.next in
    let l : c.args.next < length joins = grind arith in
    let here = ap (λ xs. slice_get xs c.args.next) (sym c.joins-joins.ensures.joins)
    ∙ item-get joins c.args.next c.index-joins-next.result l c.index-joins-next.is in
    pair-same parts c.args.low c.args.high c.args.next c.requires.turn c.index-joins-next.result
    here (sym c.is_of.ensures ∙ c.if-not-is_of.false) ∙ ap Some (sym c.peak_fault.ensures.fault)
