-- No row and no count has changed, and the names that are left decide what all do.
use Rattle.std.proofs.Common.{drop, map, string_bytes, ◌≡◌}
use Rattle.mb_registry.proofs.LookingOn.{IsLeft}
use Rattle.mb_registry.proofs.removing.all_let_go.Given as goal
use Rattle.mb_registry.specs.Removing.{all_let_go}

abbrev pub invariant-loop-referring : goal.invariant-loop-referring
invariant-loop-referring g l =
    IsLeft (g.K.Keeper.rows l.initial.keeper) (g.K.Keeper.rows l.keeper)
    (all_let_go l.fn.name l.fn.by (map string_bytes l.fn.names))
    (all_let_go l.fn.name l.fn.by (map string_bytes (drop l.referring-index l.fn.names)))
    × (g.K.Keeper.faults l.keeper ≡ g.K.Keeper.faults l.initial.keeper)
