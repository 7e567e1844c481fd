-- No row and no count has changed, and the rows so far, with those of the names that are left, are
-- all.
use Rattle.std.proofs.Common.{Ok, drop, map, string_bytes, ◌++◌, ◌≡◌}
use Rattle.mb_registry.proofs.LookingOn.{IsLeft}
use Rattle.mb_registry.proofs.listing.listed_rows.Given as goal
use Rattle.mb_registry.specs.Listing.{listed_rows}
use Rattle.mb_tables.specs.Answers.{◌>>=◌}

abbrev pub invariant-loop-name : goal.invariant-loop-name
invariant-loop-name g l =
    IsLeft (g.K.Keeper.rows l.initial.keeper) (g.K.Keeper.rows l.keeper)
    (listed_rows l.fn.kind (map string_bytes l.fn.names))
    (λ rows. listed_rows l.fn.kind (map string_bytes (drop l.name-index l.fn.names)) rows
    >>= λ others. Ok (l.rows.items ++ others))
    × (g.K.Keeper.faults l.keeper ≡ g.K.Keeper.faults l.initial.keeper)
