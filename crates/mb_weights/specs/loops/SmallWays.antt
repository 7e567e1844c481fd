-- Pascal's triangle of small numbers, kept row by row.
use Rattle.std.specs.Prelude.{List, length, ℕ, ◌*◌, ◌+◌, ◌<◌, ◌≡◌}
use Rattle.mb_tables.specs.Vectors.{at}
use Rattle.mb_weights.specs.Binomial.{ways}

-- how many numbers of things, left or chosen, have their binomial coefficients kept: 0 to 31
abbrev pub kept_ways : ℕ
kept_ways = 32

-- the places below one hold these coefficients, a row for each number of things left
pub record AreWaysBelow (table : List ℕ) (place : ℕ) : Type 0 where
  pub each_kept : length table ≡ kept_ways * kept_ways
  pub each : (rest count : ℕ) → count < kept_ways → kept_ways * rest + count < place →
      at table (kept_ways * rest + count) ≡ ways rest count

-- and all places do
abbrev pub AreSmallWays : List ℕ → Type 0
AreSmallWays table = AreWaysBelow table (kept_ways * kept_ways)
