use Rattle.std.proofs.Common.{length, ◌≡◌}
use Rattle.mb_completion.proofs.run.take_row.Given as goal
use Rattle.mb_completion.specs.Run.{AreLight}
use Rattle.mb_completion.specs.loops.Going.{GoesOn, pairs_before}

abbrev pub invariant-loop-i : goal.invariant-loop-i
invariant-loop-i l = record {
  goes_on : GoesOn l.initial.rules.matrix l.initial.rules.order l.pairs l.initial.rules.rules
      l.looks l.rules.rules l.done;
  place : l.done ≡ length (pairs_before l.rules.rules l.i l.j);
  light : AreLight l.initial.rules.matrix l.rules.rules;
  matrix : l.rules.matrix ≡ l.initial.rules.matrix;
  order : l.rules.order ≡ l.initial.rules.order;
}
