-- What a walk answers.
use Rattle.std.specs.Prelude.{Err, List, None, Ok, Option, Result, Some, if◌then◌else◌, length, nat_lt, ℕ, ℤ, ◌+◌}
use Rattle.mb_matrix.specs.Matrix.{Design}
use Rattle.mb_rings.specs.Ring.{Ring, rings_of, tables_of}
use Rattle.mb_rings.specs.declared.fault.WalkFault.{WalkFault}
use Rattle.mb_rings.specs.declared.fault.WalkFault.TheVariants.{OutOfMemory, TooLarge}

-- the most tables that a walk may be asked for
abbrev pub most_tables : ℕ
most_tables = 2000000

-- the rings, unless they have more tables than the limit
abbrev pub within_limit : ℕ → List Ring → Result (List Ring) WalkFault
within_limit limit rings =
    if nat_lt limit (length (tables_of rings)) then Err (TooLarge (limit + 1)) else Ok rings

-- the rings of a start, unless more tables than the limit are reached
abbrev pub walk_of : ℕ → Design → List (List ℤ) → List ℕ → Result (List Ring) WalkFault
walk_of limit matrix moves start = within_limit limit (rings_of matrix moves start)

-- the cause of a refusal; want of memory has none
abbrev pub walk_cause : WalkFault → Option WalkFault
walk_cause OutOfMemory = None
walk_cause fault = Some fault
