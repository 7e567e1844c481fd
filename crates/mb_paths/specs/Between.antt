-- What is answered of two tables of equal margins: the least path between them, within a limit on
-- the tables that are seen.
use Rattle.std.specs.Prelude.{Err, List, Ok, Result, length, suc, ℕ, ℤ, ◌+◌, ◌<◌, ◌≡◌, ◌≤◌}
use Rattle.mb_matrix.specs.Matrix.{Design, fiber_of}
use Rattle.mb_paths.specs.declared.connection.Between.{Between}
use Rattle.mb_paths.specs.declared.connection.Between.TheVariants.{Apart, Joined}
use Rattle.mb_rings.specs.Ring.{reached, rings_to, tables_of}
use Rattle.mb_rings.specs.ShortestPath.{IsLeastPath}
use Rattle.mb_rings.specs.declared.fault.WalkFault.{WalkFault}
use Rattle.mb_rings.specs.declared.fault.WalkFault.TheVariants.{OutOfMemory, TooLarge}
use Rattle.mb_tables.specs.Lists.{In}

-- the most tables that may be seen between two tables
abbrev pub most_between : ℕ
most_between = 100000

-- the tables in rings 0 to k of a start: the ball of radius k in the fiber graph
abbrev pub ball : Design → List (List ℤ) → List ℕ → ℕ → List (List ℕ)
ball matrix moves start k = tables_of (rings_to (fiber_of matrix start) moves start k)

-- the limit is passed before v is met: some ball of u is within the limit and hasn't v, and
-- the next one has more tables than the limit
pub record PassesLimit
    (limit : ℕ) (matrix : Design) (moves : List (List ℤ)) (u v : List ℕ) : Type 0 where
  pub radius : ℕ
  pub within : length (ball matrix moves u radius) ≤ limit
  pub missed : In v (ball matrix moves u radius) → ⊥
  pub passed : limit < length (ball matrix moves u (suc radius))

-- steps that are the answer: the least path from u to v, where the ball of u with v is within the
-- limit
pub record IsWithin
    (limit : ℕ) (matrix : Design) (moves : List (List ℤ)) (u v : List ℕ) (steps : List ℤ)
    : Type 0 where
  pub path : IsLeastPath moves u steps v
  pub near : length (ball matrix moves u (length steps)) ≤ limit

-- v is not among the reached tables of u, which are within the limit
pub record IsApart
    (limit : ℕ) (matrix : Design) (moves : List (List ℤ)) (u v : List ℕ) : Type 0 where
  pub within : length (reached matrix moves u) ≤ limit
  pub missed : In v (reached matrix moves u) → ⊥

-- the answer, whose three kinds exclude each other; want of memory is free
abbrev pub Answers : ℕ → Design → List (List ℤ) → List ℕ → List ℕ → Result Between WalkFault →
    Type 0
Answers limit matrix moves u v (Ok (Joined steps)) = IsWithin limit matrix moves u v steps.items
Answers limit matrix moves u v (Ok Apart) = IsApart limit matrix moves u v
Answers limit matrix moves u v (Err (TooLarge seen)) =
    (seen ≡ limit + 1) × PassesLimit limit matrix moves u v
Answers limit matrix moves u v (Err OutOfMemory) = Unit {0}
