-- The law of written datasets.
use Rattle.std.specs.Prelude.{Ok, ◌≡◌}
use Rattle.mb_data.specs.CrossTable.{CrossTable}
use Rattle.mb_data.specs.Dataset.{IsCrossTable}
use Rattle.mb_data.specs.DatasetText.{dataset_of}
use Rattle.mb_data.specs.Written.{written}

-- what is written is read back as the same dataset
abbrev pub WrittenIsRead : Type 0
WrittenIsRead = (table : CrossTable) → IsCrossTable table → dataset_of (written table) ≡ Ok table
