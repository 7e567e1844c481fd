use Rattle.std.proofs.Common.{arith, get_or, length, ◌<◌, ◌≡◌, ◌≢◌, ◌∙◌}
use Rattle.std.proofs.lemmas.Bool.Decides.{nat_tests}
use Rattle.std.proofs.lemmas.List.{nil_from_length}
use Rattle.mb_text.proofs.SignSteps.{signed_above, signed_below}
use Rattle.mb_text.proofs.plain.plain_signed.Goals as goal
use Rattle.mb_text.proofs.plain.plain_signed.Goals.{then-is_empty-via-else-is_empty+then-item-ne45, then-is_empty-via-then-is_empty}

pub returns-then-is_empty : goal.returns-then-is_empty
returns-then-is_empty c =
    let plain : get_or c.args.item.now 0 0 ≢ 45 =
    elim c.then-is_empty.branch [
      | then-is_empty-via-then-is_empty w ↦
          let size : length c.args.item.now ≡ 0 = grind (arith, nat_tests) in
          rw (nil_from_length c.args.item.now size) (λ e. omega arith)
      | then-is_empty-via-else-is_empty+then-item-ne45 w ↦ w.if-item-ne45.true
    ] in
    c.plain_above.ensures ∙ signed_above c.args.highest c.args.item.now plain

pub returns : goal.returns
returns c =
    let some : 0 < length c.args.item.now = grind (arith, nat_tests) in
    rw (c.plain_below.ensures, c.split_at.ensures.back)
    (signed_below c.args.highest c.args.item.now some c.if-item-ne45.false)
