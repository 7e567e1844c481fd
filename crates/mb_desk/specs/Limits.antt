-- The limits of the desk, each a number.
use Rattle.std.specs.Prelude.{ℕ, ◌≤◌}
use Rattle.mb_rings.specs.Walk.{most_tables}

-- the greatest limit of `reach` and of `import`, which is also the one where none is given
abbrev pub largest_limit : ℕ
largest_limit = 100000

-- the most bytes that a word may have
abbrev pub longest_word : ℕ
longest_word = 4096

-- the greatest seed of `generate`, 3^16 - 1: sixteen digits of 2 in base 3
abbrev pub largest_seed : ℕ
largest_seed = 43046720

-- the most workers that may walk
abbrev pub most_workers : ℕ
most_workers = 64

-- a number of workers
pub record AreWorkers (workers : ℕ) : Type 0 where
  pub some : 1 ≤ workers
  pub few : workers ≤ most_workers

-- a limit of `analyse`
pub record IsFiberLimit (tables : ℕ) : Type 0 where
  pub some : 1 ≤ tables
  pub small : tables ≤ most_tables

-- a limit of `reach` and `import`
pub record IsLimit (tables : ℕ) : Type 0 where
  pub some : 1 ≤ tables
  pub small : tables ≤ largest_limit
