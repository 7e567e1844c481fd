use Rattle.std.proofs.Common.{List, [], get_or, ℕ, ◌<◌, ◌≢◌}
use Rattle.mb_keyed.proofs.ring_tables.is_any_blank.Given as goal

abbrev pub invariant-loop-table : goal.invariant-loop-table
invariant-loop-table l =
    (k : ℕ) (d : List ℕ) → k < l.table-index → get_or l.tables k d ≢ []
