-- The command `generate`: the exact test, under independence, of a 4 x 4 table made from a number.
use Rattle.std.specs.Fmt.{decimal}
use Rattle.std.specs.List.{range_with_len}
use Rattle.std.specs.Prelude.{Err, List, Ok, [], codes, length, map, ℕ, ◌%◌, ◌++◌, ◌/◌, ◌∷◌, ◌^◌}
use Rattle.mb_completion.specs.Limits.{most_looks}
use Rattle.mb_completion.specs.Outcome.{outcome_of}
use Rattle.mb_completion.specs.Run.{Finished, Outcome, TooHeavy, Unfinished}
use Rattle.mb_desk.specs.Decision.{Decided, or_refusal}
use Rattle.mb_desk.specs.ExactTest.{tested}
use Rattle.mb_desk.specs.Independence.{independence, sampled_by_rows}
use Rattle.mb_desk.specs.Plans.{answers}
use Rattle.mb_desk.specs.declared.exact_test.NumbersFault.{NumbersFault}
use Rattle.mb_desk.specs.declared.exact_test.NumbersFault.TheVariants as faults
use Rattle.mb_desk.specs.declared.plans.Plan.{Plan}
use Rattle.mb_desk.specs.declared.plans.Stop.{Stop}
use Rattle.mb_desk.specs.declared.plans.Stop.TheVariants.{Memory, Refused}
use Rattle.mb_desk.specs.declared.refusals.Refusal.{Refusal}
use Rattle.mb_desk.specs.declared.refusals.Refusal.TheVariants as refusals
use Rattle.mb_matrix.specs.Matrix.{Design, fiber_of}
use Rattle.mb_matrix.specs.Measure.{Weighting}
use Rattle.mb_order.specs.declared.order.Order.TheVariants.{Grevlex}
use Rattle.mb_rings.specs.Walk.{most_tables}
use Rattle.mb_tables.specs.Answers.{◌>>=◌}
use Rattle.mb_text.specs.Lines.{line}
use Rattle.mb_weights.specs.Decimals.{decimals_of}
use Rattle.mb_weights.specs.PValue.{Fraction}

-- the model's design matrix, of 4 rows and 4 columns
abbrev pub square_matrix : Design
square_matrix = independence 4 4

-- its measure, of which the row totals are fixed
abbrev pub square_measure : Weighting
square_measure = sampled_by_rows 4 4

-- digit j of a number in base 3, digit 0 being the least significant
abbrev pub digit : ℕ → ℕ → ℕ
digit number j = number / 3 ^ j % 3

-- the table of a seed: the count of cell j, row by row, is digit j of the seed
unfoldable pub seed_table : ℕ → List ℕ
seed_table seed = map (digit seed) (range_with_len 0 16)

-- a run is to be finished
abbrev pub finished : Outcome → Decided (Unit {0})
finished (Finished final looks) = Ok tt
finished (Unfinished looks i j) = Err (refusals.Unfinished looks (i, j))
finished (TooHeavy i j) = Err (refusals.Exponent (i, j))

-- the run of the completion, by grevlex and with 1,000,000 looks
unfoldable pub square_outcome : Outcome
square_outcome = outcome_of square_matrix Grevlex most_looks

-- the refusal of an exact test; no definition has the last of these faults
abbrev pub numbers_refusal : NumbersFault → Refusal
numbers_refusal (faults.Certificate line reason) = refusals.Certificate line reason
numbers_refusal (faults.TooLarge seen) = refusals.TooLarge seen
numbers_refusal faults.TooWide = refusals.TooWide
numbers_refusal faults.OutOfMemory = refusals.TooWide

-- why the work stops for the fault that an exact test answers
abbrev pub numbers_stop : NumbersFault → Stop
numbers_stop faults.OutOfMemory = Memory
numbers_stop fault = Refused (numbers_refusal fault)

-- the exact p-value of a table, of whose fiber no more than 2,000,000 tables are listed
abbrev pub tested_square : List ℕ → Decided Fraction
tested_square table =
    or_refusal numbers_refusal (tested most_tables square_matrix square_measure table)

-- the exact p-value of the table of a seed: the design matrix is completed first, then the fiber of
-- the table is counted, then its weights are summed
abbrev pub generated : ℕ → Decided Fraction
generated seed = do
  complete ← finished square_outcome
  tested_square (seed_table seed)

-- the lines of a fraction: its two numbers, and its first six decimals
abbrev pub fraction_lines : ℕ → ℕ → List ℕ
fraction_lines below whole =
    codes "fraction " ++ (decimal below ++ (codes "/" ++ (decimal whole
    ++ (codes "\ndecimals " ++ (decimals_of below whole ++ codes "\n")))))

-- the printed lines: the table, how many tables its fiber has, and its p-value
abbrev pub test_lines : List ℕ → ℕ → Fraction → List ℕ
test_lines table tables fraction =
    line (codes "table" ∷ map decimal table)
    ++ (line (codes "tables" ∷ decimal tables ∷ []) ++ fraction_lines fraction.below fraction.whole)

-- those of a seed
abbrev pub generated_lines : ℕ → Fraction → List ℕ
generated_lines seed fraction =
    test_lines (seed_table seed) (length (fiber_of square_matrix (seed_table seed))) fraction

-- the plan of the command: the lines are printed
abbrev pub generate_plan : ℕ → Decided Plan
generate_plan seed = generated seed >>= λ fraction. Ok (answers (generated_lines seed fraction))
