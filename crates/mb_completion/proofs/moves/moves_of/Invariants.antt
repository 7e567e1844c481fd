use Rattle.std.proofs.Common.{length, ◌≡◌}
use Rattle.mb_completion.proofs.moves.moves_of.Given as goal
use Rattle.mb_completion.specs.Made.{moves_among}
use Rattle.mb_completion.specs.loops.Making.{free_below}

abbrev pub invariant-loop-k : goal.invariant-loop-k
invariant-loop-k l = record {
  so_far : l.moves.rows ≡ moves_among l.rules.matrix.rows l.rules.rules
      (free_below l.rules.matrix.rows l.rules.rules l.k);
  width : l.moves.width ≡ length l.rules.matrix.columns;
}
