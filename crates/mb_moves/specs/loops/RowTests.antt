-- Rows that are tested while they are read.
use Rattle.std.specs.Prelude.{List, Ok, Option, Result, ℕ, ◌*◌, ℤ}
use Rattle.mb_tables.specs.Answers.{◌>>=◌}
use Rattle.mb_tables.specs.Rows.{rows_of}
use Rattle.mb_moves.specs.GridText.{entries_after}
use Rattle.mb_moves.specs.Testing.{first_wrong}
use Rattle.mb_moves.specs.declared.fault.GridFault.{GridFault}

-- that these tokens are so many entries, or their first fault
abbrev pub entries_checked : ℕ → List (List ℕ) → Result (Unit {0}) GridFault
entries_checked wanted tokens = entries_after wanted 0 tokens >>= λ entries. Ok tt

-- the first row that is no move of the matrix, where these tokens are so many rows of a width, or
-- their first fault
abbrev pub wrong_row : List (List ℤ) → ℕ → ℕ → List (List ℕ) → Result (Option ℕ) GridFault
wrong_row matrix width count tokens =
    entries_after (count * width) 0 tokens >>= λ entries.
    Ok (first_wrong matrix 1 (rows_of width count entries))
