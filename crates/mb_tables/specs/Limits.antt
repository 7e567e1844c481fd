-- The limits of tables and of lists of moves.
use Rattle.std.specs.Prelude.{ℕ}

-- the most cells of a table or a move, and the most rows of a matrix
abbrev pub most_cells : ℕ
most_cells = 64

-- the most moves of a list
abbrev pub most_moves : ℕ
most_moves = 1000064

-- the most that the counts of a table from a file add up to
abbrev pub largest_total : ℕ
largest_total = 1000000
