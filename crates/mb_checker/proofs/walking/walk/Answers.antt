use Rattle.std.proofs.Common.{None, Some, get_or, pos, rules as proof_rules, ◌≡◌}
use Rattle.std.proofs.lemmas.Int.{to_z-of_z}
use Rattle.mb_certificate.specs.FirstFault.{moved_by, names_move, walk}
use Rattle.mb_checker.proofs.SignedSteps.{passing-front, walk-ends, walk-goes, walk-stops}
use Rattle.mb_checker.proofs.walking.walk.Goals as goal
use mir.Syntax.{w64}
use mir.Val.{SFits}

pub returns-then-not-step_by-clause-none : goal.returns-then-not-step_by-clause-none
returns-then-not-step_by-clause-none c =
    let moves = c.args.certificate.now.moves in
    let steps = c.args.steps.now in
    let f : SFits w64 (get_or steps c.loop-step.step-index (pos 0)) = search proof_rules in
    let e : moved_by moves (get_or steps c.loop-step.step-index (pos 0)) c.loop-step.table ≡ None =
    simp to_z-of_z at c.if-not-step_by.ensures.none in
    walk-stops moves steps c.loop-step.step-index c.loop-step.table
    (walk moves steps c.args.table.now) c.loop-step.invariant.rest c.loop-step-test.true e

pub loop-step-preserved : goal.loop-step-preserved
loop-step-preserved c =
    let moves = c.args.certificate.now.moves in
    let steps = c.args.steps.now in
    let f : SFits w64 (get_or steps c.loop-step.step-index (pos 0)) = search proof_rules in
    let e : moved_by moves (get_or steps c.loop-step.step-index (pos 0)) c.loop-step.table
    ≡ Some c.step_by.new.table = simp to_z-of_z at c.if-not-step_by.ensures.moved in
    record {
      rest = walk-goes moves steps c.loop-step.step-index c.loop-step.table
          (walk moves steps c.args.table.now) c.loop-step.invariant.rest c.step_by.new.table
          c.loop-step-test.true e;
      named = (passing-front (names_move moves) steps c.loop-step.step-index
          c.loop-step.invariant.named c.loop-step-test.true).1;
      cells = c.step_by.ensures.cells;
      small = c.step_by.ensures.small;
    }

pub returns-clause-made : goal.returns-clause-made
returns-clause-made c =
    let moves = c.args.certificate.now.moves in
    let steps = c.args.steps.now in
    walk-ends moves steps c.loop-step.step-index c.loop-step.table
    (walk moves steps c.args.table.now) c.loop-step.invariant.rest c.loop-step-test.false
