-- The levels of a record, factor by factor.
use Rattle.std.specs.List.{slice_index_or}
use Rattle.std.specs.Prelude.{List, [], length, ℕ, ◌<◌, ◌≡◌, ◌≤◌}
use Rattle.mb_data.specs.Levels.{with_name}

-- the levels of the first k factors have the names of a row; the others are as they were
pub record HaveNames (before now : List (List (List ℕ))) (row : List (List ℕ)) (k : ℕ) : Type 0
  where
    pub factors : length now ≡ length before
    pub done : (j : ℕ) → j < k →
        slice_index_or now j [] ≡ with_name (slice_index_or before j []) (slice_index_or row j [])
    pub left : (j : ℕ) → k ≤ j → slice_index_or now j [] ≡ slice_index_or before j []
