use Rattle.std.proofs.Common.{drop, ◌≡◌}
use Rattle.std.specs.List.{list_all}
use Rattle.mb_certificate.specs.FirstFault.{names_move}
use Rattle.mb_checker.proofs.walking.name_moves.Given as goal

abbrev pub invariant-loop-step : goal.invariant-loop-step
invariant-loop-step l =
    list_all (names_move l.certificate.moves) (drop l.step-index l.steps)
    ≡ list_all (names_move l.certificate.moves) l.steps
