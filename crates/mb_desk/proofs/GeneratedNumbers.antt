-- What `generate` knows of a run, and of the numbers of a valid certificate of its design matrix.
use Rattle.std.proofs.Common.{All, Err, List, Ok, Result, ap, length, map, subst, sum, sym, ℕ, ◌<◌, ◌^◌, ◌∙◌, ◌≡◌, ◌≤◌}
use Rattle.mb_certificate.proofs.NoFaults.{none-valid}
use Rattle.mb_certificate.specs.Certificate.{AreParts, Certificate}
use Rattle.mb_certificate.specs.FirstFault.{first_fault}
use Rattle.mb_certificate.specs.Valid.{IsValid}
use Rattle.mb_completion.proofs.Births.{births-valid}
use Rattle.mb_completion.proofs.SameOutcomes.{one_outcome}
use Rattle.mb_completion.specs.Faults.{Stops}
use Rattle.mb_completion.specs.Limits.{most_looks}
use Rattle.mb_completion.specs.Run.{Finished, Outcome, RunEnds, TooHeavy, Unfinished}
use Rattle.mb_completion.specs.Start.{births_of}
use Rattle.mb_completion.specs.declared.fault.CompleteFault.{CompleteFault}
use Rattle.mb_completion.specs.declared.fault.CompleteFault.TheVariants as runs
use Rattle.mb_desk.proofs.FiberTests.{certified-sum}
use Rattle.mb_desk.proofs.GenerateInversions.{few_ok, square_run}
use Rattle.mb_desk.proofs.SquareModel.{square_design, table_cells, table_margins}
use Rattle.mb_desk.specs.Completing.{complete_stop}
use Rattle.mb_desk.specs.Decision.{or_refusal, stop_cause}
use Rattle.mb_desk.specs.ExactTest.{Numbers, accepted, narrow, numbers_cause, numbers_in, numbers_of, small_enough, tested}
use Rattle.mb_desk.specs.GenerateCommand.{finished, numbers_refusal, numbers_stop, seed_table, square_matrix, square_measure, square_outcome, tested_square}
use Rattle.mb_desk.specs.declared.exact_test.Figures.{Figures}
use Rattle.mb_desk.specs.declared.exact_test.NumbersFault.{NumbersFault}
use Rattle.mb_desk.specs.declared.exact_test.NumbersFault.TheVariants as faults
use Rattle.mb_matrix.specs.Matrix.{Design, fiber_of, margins_of}
use Rattle.mb_matrix.specs.Measure.{Weighting}
use Rattle.mb_order.specs.Rewriting.{Rule}
use Rattle.mb_order.specs.declared.order.Order.TheVariants.{Grevlex}
use Rattle.mb_rings.specs.Ring.{rings_of}
use Rattle.mb_rings.specs.Walk.{most_tables}
use Rattle.mb_tables.specs.Answers.{IsRefused, ◌>>=◌}
use Rattle.mb_text.proofs.RecordSteps.{stepped}
use Rattle.mb_weights.specs.PValue.{exact_p_value}
use Rattle.mb_weights.specs.Weight.{weight_of}

-- ---- the run

-- the run ends in one way
one_end : (matrix : Design) (end : Outcome) → matrix ≡ square_matrix →
    RunEnds matrix Grevlex most_looks end → square_outcome ≡ end
one_end matrix end m r =
    one_outcome square_matrix Grevlex square_design most_looks (births_of square_matrix) 0
    square_outcome end
    (births-valid Grevlex square_matrix.rows square_matrix.columns square_design.each) square_run
    (subst (λ (x : Design). RunEnds x Grevlex most_looks end) m r)

-- where the run is finished, the command goes on
pub run-finished : (matrix : Design) (final : List Rule) (looks : ℕ) → matrix ≡ square_matrix →
    RunEnds matrix Grevlex most_looks (Finished final looks) → finished square_outcome ≡ Ok tt
run-finished matrix final looks m r = ap finished (one_end matrix (Finished final looks) m r)

-- where it stops, the command is refused so
pub run-stops : (matrix : Design) (fault : CompleteFault) → matrix ≡ square_matrix →
    Stops matrix Grevlex most_looks (births_of matrix) 0 fault →
    IsRefused (stop_cause (complete_stop fault)) (finished square_outcome)
run-stops matrix (runs.Unfinished looked left) m r =
    ap finished (one_end matrix (Unfinished looked left.0 left.1) m r)
run-stops matrix (runs.Exponent pair) m r =
    ap finished (one_end matrix (TooHeavy pair.0 pair.1) m r)
run-stops matrix runs.OutOfMemory m r = tt

-- ---- the table

-- a table of a seed has the cells of the matrix
pub seed-cells : (matrix : Design) (table : List ℕ) → matrix ≡ square_matrix →
    ((seed : ℕ) × (table ≡ seed_table seed)) → length table ≡ length matrix.columns
seed-cells matrix table m s =
    ap length s.1 ∙ table_cells s.0 ∙ ap (λ (x : Design). length x.columns) (sym m)

-- and its margins fit 32 bits
pub seed-margins : (matrix : Design) (table : List ℕ) → matrix ≡ square_matrix →
    ((seed : ℕ) × (table ≡ seed_table seed)) →
    All (λ margin. margin < 2 ^ 32) (margins_of matrix table)
seed-margins matrix table m s =
    subst (λ (x : Design). All (λ margin. margin < 2 ^ 32) (margins_of x table)) (sym m)
    (subst (λ t. All (λ margin. margin < 2 ^ 32) (margins_of square_matrix t)) (sym s.1)
    (table_margins s.0))

-- ---- the numbers

-- a step before a value, where the whole is refused
step-refused : {A B F : Type 0} (step : Result A F) (value : A → B) (fault : F) →
    (step >>= λ x. Ok (value x)) ≡ Err fault → step ≡ Err fault
step-refused (Ok x) value fault e = absurd (cc)
step-refused (Err other) value fault e = cc

-- an answer has one value
one_value : {A F : Type 0} (x y : A) → ◌≡◌ {A = Result A F} (Ok x) (Ok y) → x ≡ y
one_value x y e = cc

module _ (c : Certificate) (parts : AreParts c) (valid : IsValid c) (table : List ℕ)
    (matrix : c.matrix ≡ square_matrix) (measure : Weighting) (same : measure ≡ square_measure)
  where
    -- what is tested by the certificate's matrix is tested by this one
    tested-same : tested most_tables c.matrix measure table
        ≡ tested most_tables square_matrix square_measure table
    tested-same =
        ap (λ (x : Design). tested most_tables x measure table) matrix
        ∙ ap (λ (w : Weighting). tested most_tables square_matrix w table) same

    -- what is known of figures
    found : (figures : Figures) →
        numbers_of most_tables c measure table ≡ Ok (numbers_in figures) →
        (map (length {A = List ℕ}) (rings_of c.matrix c.moves table) ≡ figures.rings.items)
        × (length (fiber_of c.matrix table) ≤ most_tables)
    found figures e =
        let after = λ (nothing : Unit {0}).
        tested most_tables c.matrix measure table >>= λ fraction.
        Ok (record {
          sizes = map (length {A = List ℕ}) (rings_of c.matrix c.moves table);
          weight = weight_of measure table;
          fraction = fraction;
        }) in
        let a = stepped (accepted (first_fault c)) after (numbers_in figures) e in
        let b = stepped (tested most_tables c.matrix measure table) (λ fraction. Ok (record {
          sizes = map (length {A = List ℕ}) (rings_of c.matrix c.moves table);
          weight = weight_of measure table;
          fraction = fraction;
        })) (numbers_in figures) a.2 in
        let f = stepped (small_enough most_tables (fiber_of c.matrix table))
        (λ few. narrow (exact_p_value c.matrix measure table)) b.0 b.1 in (
          ap (λ (n : Numbers). n.sizes) (one_value _ (numbers_in figures) b.2),
          few_ok most_tables (length (fiber_of c.matrix table)) f.0 f.1,
        )

    -- so many tables stand in the rings
    pub found-tables : (figures : Figures) → length table ≡ length c.matrix.columns →
        numbers_of most_tables c measure table ≡ Ok (numbers_in figures) →
        sum figures.rings.items ≡ length (fiber_of square_matrix table)
    found-tables figures long e =
        ap sum (sym (found figures e).0) ∙ certified-sum c parts valid table long
        ∙ ap (λ (x : Design). length (fiber_of x table)) matrix

    -- they are within the limit
    pub found-few : (figures : Figures) → length table ≡ length c.matrix.columns →
        numbers_of most_tables c measure table ≡ Ok (numbers_in figures) →
        sum figures.rings.items ≤ most_tables
    found-few figures long e =
        subst (λ n. n ≤ most_tables)
        (sym (certified-sum c parts valid table long) ∙ ap sum (found figures e).0)
        (found figures e).1

    -- without the certificate's lines, the numbers are refused as the test is
    refused-so : (fault : NumbersFault) → numbers_of most_tables c measure table ≡ Err fault →
        tested_square table ≡ Err (numbers_refusal fault)
    refused-so fault e =
        let after = λ (nothing : Unit {0}).
        tested most_tables c.matrix measure table >>= λ fraction.
        Ok (record {
          sizes = map (length {A = List ℕ}) (rings_of c.matrix c.moves table);
          weight = weight_of measure table;
          fraction = fraction;
        }) in
        let right = ap (λ first. accepted first >>= after) (sym (none-valid c parts valid)) in
        let refused = step-refused (tested most_tables c.matrix measure table)
        (λ fraction. record {
          sizes = map (length {A = List ℕ}) (rings_of c.matrix c.moves table);
          weight = weight_of measure table;
          fraction = fraction;
        }) fault (right ∙ e) in
        ap (or_refusal numbers_refusal) (sym tested-same ∙ refused)

    -- so the command is
    pub found-refused : (fault : NumbersFault) →
        IsRefused (numbers_cause fault) (numbers_of most_tables c measure table) →
        IsRefused (stop_cause (numbers_stop fault)) (tested_square table)
    found-refused (faults.Certificate line reason) e = refused-so (faults.Certificate line reason) e
    found-refused (faults.TooLarge seen) e = refused-so (faults.TooLarge seen) e
    found-refused faults.TooWide e = refused-so faults.TooWide e
    found-refused faults.OutOfMemory e = tt
