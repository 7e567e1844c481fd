-- The least path between two tables, by a search among all lists of steps up to some length.
use Rattle.std.specs.List.{filter, flat_map}
use Rattle.std.specs.Ordering.{is_lt}
use Rattle.std.specs.Prelude.{Bool, List, None, Option, Some, [], if◌then◌else◌, false, length, map, negsuc, pos, suc, zero, ℕ, ℤ, ◌++◌, ◌∷◌}
use Rattle.mb_certificate.specs.FirstFault.{are_same, walk}
use Rattle.mb_rings.specs.ShortestPath.{path_cmp}

-- the steps that so many moves have: each is added, and each is subtracted
unfoldable pub steps_of : ℕ → List ℤ
steps_of zero = []
steps_of (suc k) = pos (suc k) ∷ negsuc k ∷ steps_of k

-- all lists of these steps that have this length
unfoldable pub lists_of : List ℤ → ℕ → List (List ℤ)
lists_of steps zero = [] ∷ []
lists_of steps (suc n) =
    flat_map (λ step. map (λ list. step ∷ list) (lists_of steps n)) steps

-- all that have this length or a smaller one
unfoldable pub lists_to : List ℤ → ℕ → List (List ℤ)
lists_to steps zero = lists_of steps zero
lists_to steps (suc n) = lists_to steps n ++ lists_of steps (suc n)

-- whether a walk ends at the table
abbrev pub ends_at : List ℕ → Option (List ℕ) → Bool
ends_at v None = false
ends_at v (Some end) = are_same end v

-- whether the steps lead from the first table to the second
abbrev pub leads : List (List ℤ) → List ℕ → List ℕ → List ℤ → Bool
leads moves u v steps = ends_at v (walk moves steps u)

-- the path that comes first of the two, if there is a second
abbrev pub sooner : List ℤ → Option (List ℤ) → Option (List ℤ)
sooner path None = Some path
sooner path (Some other) = if is_lt (path_cmp other path) then Some other else Some path

-- the path that comes first of all, if there is one
unfoldable pub soonest : List (List ℤ) → Option (List ℤ)
soonest [] = None
soonest (path ∷ paths) = sooner path (soonest paths)

-- the least path of at most so many steps, if there is one
unfoldable pub least_path : List (List ℤ) → ℕ → List ℕ → List ℕ → Option (List ℤ)
least_path moves most u v =
    soonest (filter (leads moves u v) (lists_to (steps_of (length moves)) most))
