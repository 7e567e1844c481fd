-- The text that prints rings of tables.
use Rattle.std.specs.List.{flat_map, sum_by}
use Rattle.std.specs.Prelude.{List, [], codes, decimal, length, map, ℕ, ◌++◌, ◌+◌, ◌∷◌}
use Rattle.mb_text.specs.Lines.{line}

-- the line of a table: its counts
abbrev pub table_line : List ℕ → List ℕ
table_line table = line (map decimal table)

-- the lines of ring k: its number, how many tables it has, and then these
abbrev pub ring_lines : ℕ → List (List ℕ) → List ℕ
ring_lines k ring =
    line (codes "ring" ∷ decimal k ∷ decimal (length ring) ∷ []) ++ flat_map table_line ring

-- the lines of rings, of which the first is ring k
unfoldable pub rings_lines : ℕ → List (List (List ℕ)) → List ℕ
rings_lines k [] = []
rings_lines k (ring ∷ rings) = ring_lines k ring ++ rings_lines (k + 1) rings

-- how many tables stand in the rings
abbrev pub tables_in : List (List (List ℕ)) → ℕ
tables_in rings = sum_by length rings

-- the whole text: the number of tables, and then each ring
abbrev pub ring_table_of : List (List (List ℕ)) → List ℕ
ring_table_of rings =
    line (codes "tables" ∷ decimal (tables_in rings) ∷ []) ++ rings_lines 0 rings
