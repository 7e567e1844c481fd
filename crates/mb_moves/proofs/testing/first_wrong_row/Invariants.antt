use Rattle.std.proofs.Common.{◌*◌, ◌≡◌}
use Rattle.mb_moves.proofs.RowSteps.{found_on}
use Rattle.mb_moves.specs.GridText.{entries_after}
use Rattle.mb_moves.specs.loops.RowTests.{wrong_row}
use Rattle.mb_text.specs.Tokens.{tokens}
use Rattle.mb_moves.proofs.testing.first_wrong_row.Given as goal

abbrev pub invariant-loop-k : goal.invariant-loop-k
invariant-loop-k l =
    wrong_row l.grid.rows l.cols l.rows (tokens l.text)
    ≡ found_on l.grid.rows l.cols l.rows l.k l.wrong
    (entries_after l.wanted (l.k * l.cols) (tokens l.rest))
