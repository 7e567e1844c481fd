-- No row and no count has changed, and the rows so far, with those of the kinds that are left, are
-- all.
use Rattle.std.proofs.Common.{Ok, drop, ◌++◌, ◌≡◌}
use Rattle.mb_registry.proofs.LookingOn.{IsLeft}
use Rattle.mb_registry.proofs.listing.rows_of_kinds.Given as goal
use Rattle.mb_registry.specs.Listing.{rows_of_kinds}
use Rattle.mb_tables.specs.Answers.{◌>>=◌}

abbrev pub invariant-loop-kind : goal.invariant-loop-kind
invariant-loop-kind g l =
    IsLeft (g.K.Keeper.rows l.initial.keeper) (g.K.Keeper.rows l.keeper)
    (rows_of_kinds l.fn.kinds)
    (λ rows. rows_of_kinds (drop l.kind-index l.fn.kinds) rows
    >>= λ others. Ok (l.all.items ++ others))
    × (g.K.Keeper.faults l.keeper ≡ g.K.Keeper.faults l.initial.keeper)
