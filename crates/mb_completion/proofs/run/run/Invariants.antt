use Rattle.std.proofs.Common.{length, ◌+◌, ◌-◌, ◌≡◌, ◌≤◌}
use Rattle.mb_completion.proofs.run.run.Given as goal
use Rattle.mb_completion.specs.Run.{AreLight}
use Rattle.mb_completion.specs.Start.{births}
use Rattle.mb_completion.specs.loops.Going.{GoesOn, pairs_before}

abbrev pub invariant-loop-j : goal.invariant-loop-j
invariant-loop-j l = record {
  goes_on : GoesOn l.matrix l.fn.order l.pairs
      (births l.matrix.rows l.matrix.columns) 0 l.rules.rules l.looks;
  place : l.looks ≡ length (pairs_before l.rules.rules 0 l.j);
  within : l.j ≤ length l.rules.rules;
  begin : length (births l.matrix.rows l.matrix.columns) ≤ 64;
  light : AreLight l.matrix l.rules.rules;
  matrix : l.rules.matrix ≡ l.matrix;
  order : l.rules.order ≡ l.fn.order;
}

abbrev pub decreases-loop-j : goal.decreases-loop-j
decreases-loop-j l = 64 + l.pairs - l.j
