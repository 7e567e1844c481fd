-- The entries of the design matrix of 4 x 4 independence, as the program writes them.
use Rattle.std.specs.Prelude.{cond, nat_lt, ℕ, ◌%◌, ◌-◌, ◌/◌, ◌==◌}

-- the entry of a margin at a cell: a row total has the cells of its row, and a column total, from
-- margin 4 on, those of its column
abbrev pub square_entry : ℕ → ℕ → ℕ
square_entry margin cell =
    cond (nat_lt margin 4) (cond (cell / 4 == margin) 1 0) (cond (cell % 4 == margin - 4) 1 0)
