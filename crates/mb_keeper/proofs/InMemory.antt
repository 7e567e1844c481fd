-- A database in memory is always open and returns what was written.
use Rattle.std.proofs.Common.{Bool, Err, IfOk, None, Ok, Result, Some, false, refl, true, ◌≡◌}
use Rattle.std.specs.Prelude.{if◌then◌else◌}
use Rattle.std.specs.FinMap.{empty}
use Rattle.mb_outside.specs.declared.keeper.KeepFault.{KeepFault}
use Rattle.sqlite.specs.declared.MemStore.{MemStore}
use Rattle.sqlite.specs.Held.{state}
use Rattle.sqlite.specs.Steps.{over_memory}
use Rattle.sqlite.proofs.Callers.{memory_is_clean}
use Rattle.mb_keeper.specs.Kept.{IsSound, kept, lasts}
use Rattle.mb_keeper.specs.Known.{IsLasting, told}
use Rattle.mb_keeper.specs.declared.sql_keeper.SqlKeeper.{SqlKeeper}

-- so a keeper over one lasts
pub memory_lasts : IsLasting over_memory
memory_lasts c = (refl, refl)

-- and tells at once
pub told_at_once : (r : Result (SqlKeeper MemStore over_memory) KeepFault)
    → IfOk r (λ keeper. IsSound over_memory keeper → kept over_memory keeper ≡ Some empty)
    → IfOk r (λ keeper. kept over_memory keeper ≡ Some empty)
told_at_once (Err e) h = tt
told_at_once (Ok keeper) h = h (memory_is_clean keeper.connection, refl)

-- and goes on telling
pub lasts_at_once : (r : Result (SqlKeeper MemStore over_memory) KeepFault)
    → IfOk r (λ keeper. kept over_memory keeper ≡ Some empty) → IfOk r (lasts over_memory)
lasts_at_once (Err e) h = tt
lasts_at_once (Ok keeper) h = (by keeper.is_known h, memory_lasts)
  where
    by : (b : Bool) → (if b then told (state over_memory keeper.connection) else None) ≡ Some empty
        → b ≡ true
    by true e = refl
    by false e = absurd (cc)
