-- What a dataset keeps: a cross-classified table within the limits.
use Rattle.std.specs.List.{list_all, slice_index_or}
use Rattle.std.specs.Prelude.{Ok, [], length, sum, true, ℕ, ◌++◌, ◌∷◌, ◌≡◌, ◌≤◌}
use Rattle.std.specs.Str.{is_utf8}
use Rattle.mb_data.specs.CrossTable.{CrossTable, combinations, counts, sizes}
use Rattle.mb_data.specs.HeaderText.{count_word, header_of}
use Rattle.mb_data.specs.Levels.{AreApart}

-- no two factors have one name, and no two levels of a factor; there is an entry for each
-- combination, 1 to 64 of them are cells, and the counts add up to at most 1,000,000
pub record IsCrossTable (table : CrossTable) : Type 0 where
  pub some_factors : 1 ≤ length table.factors
  pub header : header_of (table.factors ++ count_word ∷ [])
      ≡ Ok (record { factors = table.factors; place = length table.factors })
  pub each_factor : length table.levels ≡ length table.factors
  pub apart : (k : ℕ) → AreApart (slice_index_or table.levels k [])
  pub texts : (k : ℕ) → list_all is_utf8 (slice_index_or table.levels k []) ≡ true
  pub full : length table.entries ≡ combinations (sizes table.levels)
  pub some_cells : 1 ≤ length (counts table.entries)
  pub few_cells : length (counts table.entries) ≤ 64
  pub total : sum (counts table.entries) ≤ 1000000

-- the numbers of cells and of counts that are kept beside it
pub record IsDataset (table : CrossTable) (cells total : ℕ) : Type 0 where
  pub table_is : IsCrossTable table
  pub cells_are : cells ≡ length (counts table.entries)
  pub total_is : total ≡ sum (counts table.entries)
