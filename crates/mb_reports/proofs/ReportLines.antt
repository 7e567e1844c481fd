-- The lines of a report, both ways.
use Rattle.std.proofs.Common.{Bool, List, [], codes, length, map, nat_le, refl, true, ℕ, ◌∷◌, ◌≡◌}
use Rattle.std.specs.Fmt.{decimal}
use Rattle.mb_reports.proofs.ReportItems.{AreSums, IsPositive, decimals_are_item, positive_read, positive_written, sums_read, sums_written}
use Rattle.mb_reports.specs.Report.{fraction_item}
use Rattle.mb_reports.specs.ReportText.{decimals_in, fraction_in, have_in_all, observed_in, positive_number, rings_in, sums_of, tables_in, weight_in}
use Rattle.mb_tables.specs.Limits.{most_cells}
use Rattle.mb_text.proofs.ItemBytes.{numeral_is_item}
use Rattle.mb_text.proofs.LineReaders.{PassNumbers, Reads, exactly_read, exactly_written, numbers_reads, passing_read, passing_written, value_reads}
use Rattle.mb_text.specs.LineForms.{exactly, is_numeral, passing}
use Rattle.mb_weights.specs.Decimals.{decimals_of}

-- whether there are no more counts than cells of a table
abbrev pub are_few : List ℕ → Bool
are_few counts = nat_le (length counts) most_cells

-- the line of the observed table
pub observed_reads :
    Reads observed_in (λ counts. codes "observed" ∷ map decimal counts) (PassNumbers are_few)
observed_reads = numbers_reads (codes "observed") are_few refl

-- the line of the number of tables
pub tables_reads :
    Reads tables_in (λ tables. codes "tables" ∷ tables ∷ []) (λ item. is_numeral item ≡ true)
tables_reads =
    value_reads (codes "tables") refl (passing is_numeral) (λ item. item)
    (λ item. is_numeral item ≡ true)
    (λ item is. (passing_written is_numeral item is, numeral_is_item item is))
    (passing_read is_numeral)

-- the line of the rings
pub rings_reads : (tables : List ℕ) →
    Reads (rings_in tables) (λ rings. codes "rings" ∷ map decimal rings)
    (PassNumbers (have_in_all tables))
rings_reads tables = numbers_reads (codes "rings") (have_in_all tables) refl

-- the line of the weight
pub weight_reads : Reads weight_in (λ n. codes "weight" ∷ decimal n ∷ []) IsPositive
weight_reads =
    value_reads (codes "weight") refl positive_number decimal IsPositive positive_written
    positive_read

-- the line of the fraction
pub fraction_reads : (weight : ℕ) →
    Reads (fraction_in weight) (λ sums. codes "fraction" ∷ fraction_item sums ∷ [])
    (AreSums weight)
fraction_reads weight =
    value_reads (codes "fraction") refl (sums_of weight) fraction_item (AreSums weight)
    (sums_written weight) (sums_read weight)

-- the line of the decimals
pub decimals_reads : (sums : ℕ × ℕ) →
    Reads (decimals_in sums) (λ _. codes "decimals" ∷ decimals_of sums.0 sums.1 ∷ [])
    (λ _. Unit {0})
decimals_reads sums =
    value_reads (codes "decimals") refl (exactly (decimals_of sums.0 sums.1))
    (λ _. decimals_of sums.0 sums.1) (λ _. Unit {0})
    (λ x is. (
      exactly_written (decimals_of sums.0 sums.1) x,
      decimals_are_item sums.0 sums.1,
    ))
    (λ item x e. (exactly_read (decimals_of sums.0 sums.1) item x e, tt))
