-- The report of an exact test, and its one text.
use Rattle.std.specs.Fmt.{decimal}
use Rattle.std.specs.List.{flat_map}
use Rattle.std.specs.Prelude.{All, List, [], codes, length, map, sum, ℕ, ◌++◌, ◌<◌, ◌^◌, ◌∷◌, ◌≤◌}
use Rattle.mb_tables.specs.Counts.{IsTable}
use Rattle.mb_text.specs.Lines.{line}
use Rattle.mb_text.specs.Name.{IsName}
use Rattle.mb_weights.specs.Decimals.{decimals_of}

-- what a report says: the names of the analysis and of its basis, model and dataset; the observed
-- table; how many tables of its fiber stand at each distance from it; its weight; and the exact
-- p-value, `below` over `whole`
pub record Report : Type 0 where
  pub name : List ℕ
  pub basis : List ℕ
  pub model : List ℕ
  pub dataset : List ℕ
  pub observed : List ℕ
  pub rings : List ℕ
  pub weight : ℕ
  pub below : ℕ
  pub whole : ℕ

-- four names, a table of one cell or more, a ring or more, and a weight that both sums have in them
pub record IsReport (report : Report) : Type 0 where
  pub named : IsName report.name
  pub of_basis : IsName report.basis
  pub of_model : IsName report.model
  pub of_dataset : IsName report.dataset
  pub some_cells : 1 ≤ length report.observed
  pub some_rings : 1 ≤ length report.rings
  pub weighed : 1 ≤ report.weight
  pub likely : report.weight ≤ report.below
  pub within : report.below ≤ report.whole

-- a report that the program can hold
pub record FitsReport (report : Report) : Type 0 where
  pub table : IsTable report.observed
  pub sizes : All (λ size. size < 2 ^ 32) report.rings
  pub sums : report.whole < 2 ^ 128

-- a fraction, parted by `/` (47)
abbrev pub fraction_item : ℕ × ℕ → List ℕ
fraction_item fraction = decimal fraction.0 ++ 47 ∷ decimal fraction.1

-- the items of the lines of a report. The tables are as many as the rings have in all
abbrev pub report_lines : Report → List (List (List ℕ))
report_lines report =
    (codes "analysis" ∷ report.name ∷ [])
    ∷ (codes "basis" ∷ report.basis ∷ [])
    ∷ (codes "model" ∷ report.model ∷ [])
    ∷ (codes "dataset" ∷ report.dataset ∷ [])
    ∷ (codes "observed" ∷ map decimal report.observed)
    ∷ (codes "tables" ∷ decimal (sum report.rings) ∷ [])
    ∷ (codes "rings" ∷ map decimal report.rings)
    ∷ (codes "weight" ∷ decimal report.weight ∷ [])
    ∷ (codes "fraction" ∷ fraction_item (report.below, report.whole) ∷ [])
    ∷ (codes "decimals" ∷ decimals_of report.below report.whole ∷ [])
    ∷ []

-- the one text that a report is written as
unfoldable pub report_text : Report → List ℕ
report_text report = flat_map line (report_lines report)
