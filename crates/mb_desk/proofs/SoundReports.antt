-- The report of an exact test is a report that fits.
use Rattle.std.proofs.Common.{All, Bool, List, None, Ok, Option, Some, [], ap, arith, cond, false, length, map, nat_le, refl, sum, sym, true, ℕ, ◌<◌, ◌==◌, ◌^◌, ◌∙◌, ◌∷◌, ◌≡◌, ◌≤◌}
use Rattle.std.proofs.lemmas.Bool.Decides.{nat_tests}
use Rattle.std.proofs.lemmas.List.Elements.{All-cons, All-nil}
use Rattle.std.proofs.lemmas.List.FromFn.{length-map-range_with_len}
use Rattle.std.proofs.lemmas.List.Sums.{fails_before_first, sum_by-cons}
use Rattle.std.specs.List.{position, position_or_len}
use Rattle.std.specs.Option.{option_map, option_or}
use Rattle.mb_data.specs.CrossTable.{counts}
use Rattle.mb_data.specs.Dataset.{IsCrossTable}
use Rattle.mb_desk.proofs.AnalyseInversions.{IsAnalysed, p_value_in, rings_in}
use Rattle.mb_desk.proofs.AnalysedTables.{rings-there}
use Rattle.mb_desk.specs.Sound.{IsSoundAnalysis, test_report}
use Rattle.mb_desk.specs.declared.requests.AnalyseWords.{AnalyseWords}
use Rattle.mb_kinds.specs.Model.{IsModel}
use Rattle.mb_matrix.specs.Matrix.{Design, IsDesign, fiber_of}
use Rattle.mb_matrix.specs.Measure.{AreWeights, IsMeasureOf, Weighting, base_fault, group_at, groups_of, measure_fault, scale_fault}
use Rattle.mb_matrix.specs.Faults.{unless_fault}
use Rattle.mb_matrix.specs.declared.measure_fault.MeasureFault.{MeasureFault}
use Rattle.mb_matrix.specs.declared.measure_fault.MeasureFault.TheVariants.{BadBase}
use Rattle.mb_outside.specs.Rows.{Rows}
use Rattle.mb_reports.specs.Report.{FitsReport, IsReport, Report}
use Rattle.mb_rings.proofs.FiberSteps.{fiber-start}
use Rattle.mb_rings.specs.Walk.{most_tables}
use Rattle.mb_text.specs.Name.{IsName}
use Rattle.mb_weights.proofs.CellFactors.{weight_above}
use Rattle.mb_weights.proofs.SummedTables.{at_most-cons, observed_within}
use Rattle.mb_weights.specs.PValue.{at_most, whole_of}
use Rattle.mb_weights.specs.Weight.{weight_of}

-- ---- the weight

-- where no number is 0, each is 1 or more
no_zero : (bases : List ℕ) → base_fault bases ≡ None → All (λ number. 1 ≤ number) bases
no_zero bases e k d l =
    let fails =
    fails_before_first (λ number. number == 0) bases k d (omega (arith, past, l)) in
    grind (arith, nat_tests, fails)
  where
    none : (o : Option ℕ) → ◌≡◌ {A = Option MeasureFault} (option_map BadBase o) None → o ≡ None
    none None f = refl
    none (Some cell) f = absurd (cc)

    past : length bases ≤ position_or_len (λ number. number == 0) bases
    past =
        let f = none (position (λ number. number == 0) bases) e in grind (arith, nat_tests, f)

-- the second of two faults isn't there
second_none : (first second : Option MeasureFault) → option_or first second ≡ None →
    second ≡ None
second_none None second e = e
second_none (Some fault) second e = absurd (cc)

-- a measure of a design matrix has weights
pub measure_weights : (matrix : Design) (measure : Weighting) → IsDesign matrix →
    IsMeasureOf matrix measure → AreWeights measure.groups measure.bases
measure_weights matrix measure design is =
    by (measure_fault matrix measure.scale measure.bases) refl is.made
  where
    own : Weighting
    own = record {
      scale = measure.scale;
      groups = groups_of matrix measure.scale;
      bases = measure.bases;
    }

    by : (fault : Option MeasureFault) →
        measure_fault matrix measure.scale measure.bases ≡ fault →
        unless_fault fault own ≡ Ok measure → AreWeights measure.groups measure.bases
    by None none f =
        let same : own ≡ measure = cc in
        let long = is.each_base in
        let some = design.some_cells in
        let few = design.few_cells in
        record {
          some = omega (arith, long, some);
          few = omega (arith, long, few);
          each_group =
              ap (λ (m : Weighting). length m.groups) (sym same)
              ∙ length-map-range_with_len (group_at matrix measure.scale) 0
              (length matrix.columns)
              ∙ sym long;
          positive =
              no_zero measure.bases
              (second_none (scale_fault matrix measure.scale) (base_fault measure.bases) none);
        }
    by (Some fault) none f = absurd (cc)

-- ---- the sums

-- a choice of a number or 0 is no more than the number
choice_small : (b : Bool) (n : ℕ) → cond b n 0 ≤ n
choice_small true n = omega arith
choice_small false n = omega arith

-- tables that weigh at most so much weigh no more than all
pub below_within : (measure : Weighting) (w : ℕ) (tables : List (List ℕ)) →
    whole_of measure (at_most measure w tables) ≤ whole_of measure tables
below_within measure w [] = omega arith
below_within measure w (v ∷ tables) =
    let more = at_most-cons measure w v tables in
    let all = sum_by-cons (weight_of measure) v tables in
    let rest = below_within measure w tables in
    let one = choice_small (nat_le (weight_of measure v) w) (weight_of measure v) in
    omega (arith, more, all, rest, one)

-- each of some numbers is at most their sum
pub parts_small : (numbers : List ℕ) (most bound : ℕ) → sum numbers ≤ most → most < bound →
    All (λ number. number < bound) numbers
parts_small [] most bound small l = All-nil (λ number. number < bound)
parts_small (n ∷ numbers) most bound small l =
    let all = sum_by-cons (λ x. x) n numbers in
    All-cons (λ number. number < bound) n numbers (omega (arith, all, small, l))
    (parts_small numbers most bound (omega (arith, all, small)) l)

-- ---- the report

module _ (words : AnalyseWords) (rows : Rows) (text : List ℕ) (is : IsAnalysed words rows text)
  where
    -- the report on the records
    abbrev pub made_report : Report
    made_report =
        test_report words.name words.basis is.records (rings_in is.records) (p_value_in is.records)

    -- it is a report, where its names are names and its dataset and model are sound
    pub made_is_report : IsName words.name → IsName words.basis → IsName is.records.model_name →
        IsName is.records.dataset_name → IsCrossTable is.records.dataset →
        IsModel is.records.model → IsReport made_report
    made_is_report named of_basis of_model of_dataset dataset model =
        let observed = counts is.records.dataset.entries in
        let matrix = is.records.model.matrix in
        let measure = is.records.model.measure in
        let start = fiber-start matrix is.design observed is.cells in
        let base = model.weighted.each_base in
        record {
          named = named;
          of_basis = of_basis;
          of_model = of_model;
          of_dataset = of_dataset;
          some_cells = dataset.some_cells;
          some_rings =
              rings-there (rings_in is.records) (map (length {A = List ℕ}) (rings_in is.records))
              observed refl (is.test.once observed start);
          weighed =
              weight_above measure observed
              (measure_weights matrix measure is.design model.weighted) (is.cells ∙ sym base);
          likely = observed_within measure observed (fiber_of matrix observed) start;
          within = below_within measure (weight_of measure observed) (fiber_of matrix observed);
        }

    -- there are no more tables than the limit
    tables_few : words.limit ≤ most_tables →
        sum (map (length {A = List ℕ}) (rings_in is.records)) ≤ 2000000
    tables_few limit =
        let tables = is.tables in
        let few = is.few in
        omega (arith, tables, few, limit)

    -- it fits, where the limit is within its range
    pub made_fits : IsCrossTable is.records.dataset → words.limit ≤ most_tables →
        FitsReport made_report
    made_fits dataset limit = record {
      table = record {
        few = dataset.few_cells;
        fits = parts_small (counts is.records.dataset.entries) 1000000 (2 ^ 32) dataset.total
            (omega arith);
      };
      sizes = parts_small (map (length {A = List ℕ}) (rings_in is.records)) 2000000 (2 ^ 32)
          (tables_few limit) (omega arith);
      sums = is.narrow;
    }

    -- and it has fewer than 2^128 tables
    pub made_few : words.limit ≤ most_tables →
        sum (map (length {A = List ℕ}) (rings_in is.records)) < 2 ^ 128
    made_few limit = let few = tables_few limit in omega (arith, few)

    -- it is the report on the exact test of the dataset that its basis leads to
    pub made_sound : IsSoundAnalysis rows words.name made_report
    made_sound = record {
      records = is.records;
      rings = rings_in is.records;
      fraction = p_value_in is.records;
      there = is.named;
      test = is.test;
      said = refl;
    }
