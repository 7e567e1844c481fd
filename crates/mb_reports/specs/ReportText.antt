-- The report that a text is, or its first wrong line. Lines count from 1.
use Rattle.std.specs.Fmt.{decimal}
use Rattle.std.specs.Option.{option_and_then, option_map}
use Rattle.std.specs.Prelude.{Bool, List, None, Ok, Option, Result, [], codes, length, nat_le, sum, ℕ, ◌&&◌, ◌-◌, ◌^◌, ◌∷◌}
use Rattle.std.specs.Str.{bytes_eq}
use Rattle.mb_reports.specs.Report.{Report}
use Rattle.mb_tables.specs.Answers.{◌>>=◌}
use Rattle.mb_tables.specs.Limits.{most_cells}
use Rattle.mb_text.specs.LineForms.{exactly, is_numeral, name_after, numbers_after, passing, value_after}
use Rattle.mb_text.specs.Lines.{items, lines, pieces}
use Rattle.mb_text.specs.Plain.{at_most, plain_of}
use Rattle.mb_text.specs.RecordLines.{ends, says}
use Rattle.mb_weights.specs.Decimals.{decimals_of}

-- the counts of a table, one to 64
abbrev pub observed_in : List ℕ → Option (List ℕ)
observed_in line =
    option_and_then (passing (λ counts. nat_le (length counts) most_cells))
    (numbers_after (codes "observed") (items line))

-- the number of tables, as it stands there
abbrev pub tables_in : List ℕ → Option (List ℕ)
tables_in line = value_after (codes "tables") (passing is_numeral) line

-- whether rings have as many tables in all as are written there
abbrev pub have_in_all : List ℕ → List ℕ → Bool
have_in_all tables rings = bytes_eq tables (decimal (sum rings))

-- the sizes of rings that have so many tables
abbrev pub rings_in : List ℕ → List ℕ → Option (List ℕ)
rings_in tables line =
    option_and_then (passing (have_in_all tables)) (numbers_after (codes "rings") (items line))

-- a number below 2^128
abbrev pub wide_number : List ℕ → Option ℕ
wide_number item = at_most (2 ^ 128 - 1) (plain_of item)

-- a number from 1 on
abbrev pub positive_number : List ℕ → Option ℕ
positive_number item = option_and_then (passing (nat_le 1)) (wide_number item)

-- the weight of the observed table
abbrev pub weight_in : List ℕ → Option ℕ
weight_in line = value_after (codes "weight") positive_number line

-- two numbers, both there
abbrev pub both : Option ℕ → Option ℕ → Option (ℕ × ℕ)
both first second = option_and_then (λ a. option_map (λ b. (a, b)) second) first

-- two numbers below 2^128
abbrev pub two_numbers : List (List ℕ) → Option (ℕ × ℕ)
two_numbers (below ∷ whole ∷ []) = both (wide_number below) (wide_number whole)
two_numbers _ = None

-- whether two sums may be those of a table of this weight, which both have in them
abbrev pub are_sums : ℕ → ℕ × ℕ → Bool
are_sums weight sums = nat_le weight sums.0 && nat_le sums.0 sums.1

-- the two sums that a fraction, parted by `/` (47), has
abbrev pub sums_of : ℕ → List ℕ → Option (ℕ × ℕ)
sums_of weight item = option_and_then (passing (are_sums weight)) (two_numbers (pieces 47 item))

-- the exact p-value of a table of this weight
abbrev pub fraction_in : ℕ → List ℕ → Option (ℕ × ℕ)
fraction_in weight line = value_after (codes "fraction") (sums_of weight) line

-- its decimals, which the fraction determines
abbrev pub decimals_in : ℕ × ℕ → List ℕ → Option (Unit {0})
decimals_in sums line =
    value_after (codes "decimals") (exactly (decimals_of sums.0 sums.1)) line

-- the names of the analysis, its basis, its model and its dataset
unfoldable pub names_in : List (List ℕ) →
    Result ((List ℕ × List ℕ × List ℕ × List ℕ) × List (List ℕ)) ℕ
names_in pieces =
    says 1 (name_after (codes "analysis")) pieces >>= λ name.
    says 2 (name_after (codes "basis")) name.1 >>= λ basis.
    says 3 (name_after (codes "model")) basis.1 >>= λ model.
    says 4 (name_after (codes "dataset")) model.1 >>= λ dataset.
    Ok ((name.0, basis.0, model.0, dataset.0), dataset.1)

-- the observed table, and the sizes of the rings. Where the number of tables isn't theirs, the
-- line of the rings is wrong
unfoldable pub counts_in : List (List ℕ) → Result ((List ℕ × List ℕ) × List (List ℕ)) ℕ
counts_in pieces =
    says 5 observed_in pieces >>= λ observed.
    says 6 tables_in observed.1 >>= λ tables.
    says 7 (rings_in tables.0) tables.1 >>= λ rings.
    Ok ((observed.0, rings.0), rings.1)

-- the weight of the observed table, and the two sums of the exact p-value, to the end of the text
unfoldable pub p_value_in : List (List ℕ) → Result (ℕ × (ℕ × ℕ)) ℕ
p_value_in pieces =
    says 8 weight_in pieces >>= λ weight.
    says 9 (fraction_in weight.0) weight.1 >>= λ sums.
    says 10 (decimals_in sums.0) sums.1 >>= λ decimals.
    ends 11 decimals.1 >>= λ nothing.
    Ok (weight.0, sums.0)

-- the report that a text is, or the number of its first wrong line
unfoldable pub report_of : List ℕ → Result Report ℕ
report_of text =
    names_in (lines text) >>= λ names.
    counts_in names.1 >>= λ counts.
    p_value_in counts.1 >>= λ p_value.
    Ok (record {
      name = names.0.0;
      basis = names.0.1;
      model = names.0.2;
      dataset = names.0.3;
      observed = counts.0.0;
      rings = counts.0.1;
      weight = p_value.0;
      below = p_value.1.0;
      whole = p_value.1.1;
    })
