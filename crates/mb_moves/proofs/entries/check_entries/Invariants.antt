use Rattle.std.proofs.Common.{Ok, ◌≡◌}
use Rattle.mb_tables.specs.Answers.{◌>>=◌}
use Rattle.mb_moves.specs.GridText.{entries_after}
use Rattle.mb_moves.specs.loops.RowTests.{entries_checked}
use Rattle.mb_text.specs.Tokens.{tokens}
use Rattle.mb_moves.proofs.entries.check_entries.Given as goal

abbrev pub invariant-loop-k : goal.invariant-loop-k
invariant-loop-k l =
    entries_checked l.wanted (tokens l.text)
    ≡ (entries_after l.wanted l.k (tokens l.rest) >>= λ entries. Ok tt)
