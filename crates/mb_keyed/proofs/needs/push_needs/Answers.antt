use Rattle.std.proofs.Common.{Global, Vec, ap, arith, get_or, nat_abs, pos, rules, sym, ◌++◌, ◌∙◌, ◌∷◌, [], ◌≡◌}
use Rattle.std.proofs.lemmas.Int.{to_z-of_z}
use Rattle.std.proofs.lemmas.Option.{get_or_from_slice_get}
use Rattle.mb_keyed.proofs.NeedSteps.{needs-end, needs-no, needs-yes}
use Rattle.mb_keyed.specs.loops.Needs.{takes}
use Rattle.mb_keyed.specs.declared.needs.Need.{Need}
use Rattle.mb_keyed.proofs.needs.push_needs.Goals as goal
use Rattle.mb_keyed.proofs.needs.push_needs.Goals.{else-takes, then-takes+in_ok-push}
use mir.Syntax.{w32}
use mir.Val.{SFits}

pub loop-cell-preserved : goal.loop-cell-preserved
loop-cell-preserved c =
    let entry = c.entry-entry.result in
    let fits : SFits w32 entry = search rules in
    let plain = to_z-of_z w32 entry fits in
    let at : get_or c.args.z.now c.loop-cell.cell (pos 0) ≡ entry =
    get_or_from_slice_get c.args.z.now c.loop-cell.cell entry (pos 0) c.entry-entry.ensures in
    let test : takes c.args.sign entry ≡ c.takes.result =
    sym (c.takes.ensures ∙ ap (takes c.args.sign) plain) in
    elim c.if-takes.branch [
      | then-takes+in_ok-push w ↦
          needs-yes c.args.sign c.loop-cell.cell c.args.z.now (pos 0) entry
          c.loop-cell.needs.items c.if-takes.needs.items _ (omega arith) at
          (test ∙ w.if-takes.true)
          (ap (λ (v : Vec Need Global). v.items) w.needs-is ∙ w.in_ok-push.ensures.items
          ∙ ap (λ n. c.loop-cell.needs.items ++ record { cell = c.loop-cell.cell; count = n } ∷ [])
          (w.unsigned_abs.ensures.value ∙ ap (λ t. nat_abs t) plain))
          c.loop-cell.invariant
      | else-takes w ↦
          rw w.needs-is
          (needs-no c.args.sign c.loop-cell.cell c.args.z.now (pos 0) entry
          c.loop-cell.needs.items _ (omega arith) at (test ∙ w.if-takes.false)
          c.loop-cell.invariant)
    ]

pub returns : goal.returns
returns c =
    needs-end c.args.sign c.loop-cell.cell c.args.z.now c.loop-cell.needs.items _ (omega arith)
    c.loop-cell.invariant
