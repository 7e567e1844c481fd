use Rattle.std.proofs.Common.{drop, length, true, ◌≡◌}
use Rattle.std.specs.List.{list_all}
use Rattle.mb_certificate.specs.FirstFault.{names_move, walk}
use Rattle.mb_checker.proofs.walking.walk.Given as goal
use Rattle.mb_checker.specs.loops.Walked.{HasSmallMargins}

abbrev pub invariant-loop-step : goal.invariant-loop-step
invariant-loop-step l = record {
  rest : walk l.certificate.moves (drop l.step-index l.steps) l.table
      ≡ walk l.certificate.moves l.steps l.initial.table;
  named : list_all (names_move l.certificate.moves) (drop l.step-index l.steps) ≡ true;
  cells : length l.table ≡ length l.certificate.matrix.columns;
  small : HasSmallMargins l.certificate.matrix l.table;
}
