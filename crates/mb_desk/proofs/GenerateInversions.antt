-- What is known where `generate` found a p-value.
use Rattle.std.proofs.Common.{Bool, Err, List, Ok, Result, cond, false, length, nat_lt, refl, subst, true, ℕ, ◌+◌, ◌^◌, ◌≡◌, ◌≤◌}
use Rattle.std.proofs.lemmas.Bool.{ltb-false}
use Rattle.mb_completion.proofs.Births.{births-valid}
use Rattle.mb_completion.proofs.ComputedRuns.{runs-computed}
use Rattle.mb_completion.proofs.FinishedCertificates.{certified}
use Rattle.mb_completion.specs.Limits.{most_looks}
use Rattle.mb_completion.specs.Run.{Finished, Outcome, RunEnds, TooHeavy, Unfinished}
use Rattle.mb_completion.specs.Start.{births_of}
use Rattle.mb_desk.proofs.FiberTests.{is_exact_test}
use Rattle.mb_desk.proofs.Fitting.{or_ok}
use Rattle.mb_desk.proofs.SquareModel.{square_design, table_cells}
use Rattle.mb_desk.specs.ExactTest.{IsExactTest, narrow, small_enough, tested}
use Rattle.mb_desk.specs.GenerateCommand.{finished, generated, generated_lines, numbers_refusal, seed_table, square_matrix, square_measure, square_outcome, tested_square}
use Rattle.mb_desk.specs.Headline.{AnswersGenerate}
use Rattle.mb_desk.specs.declared.exact_test.NumbersFault.{NumbersFault}
use Rattle.mb_desk.specs.declared.exact_test.NumbersFault.TheVariants as faults
use Rattle.mb_matrix.specs.Matrix.{fiber_of}
use Rattle.mb_order.specs.Rewriting.{Rule}
use Rattle.mb_order.specs.declared.order.Order.TheVariants.{Grevlex}
use Rattle.mb_rings.specs.Ring.{rings_of}
use Rattle.mb_rings.specs.Walk.{most_tables}
use Rattle.mb_text.proofs.RecordSteps.{stepped}
use Rattle.mb_weights.specs.PValue.{Fraction, exact_p_value}

-- the run ends as is computed
pub square_run : RunEnds square_matrix Grevlex most_looks square_outcome
unfolding square_outcome
square_run =
    runs-computed square_matrix Grevlex square_design most_looks (births_of square_matrix) 0
    (births-valid Grevlex square_matrix.rows square_matrix.columns square_design.each)

-- a run that is finished has its rules
finished_ok : (end : Outcome) (nothing : Unit {0}) → finished end ≡ Ok nothing →
    (final : List Rule) × (looks : ℕ) × (end ≡ Finished final looks)
finished_ok (Finished final looks) nothing e = (final, looks, refl)
finished_ok (Unfinished looks i j) nothing e = absurd (cc)
finished_ok (TooHeavy i j) nothing e = absurd (cc)

-- a fiber within the limit has no more tables
pub few_ok : (limit count : ℕ) (nothing : Unit {0}) →
    ◌≡◌ {A = Result (Unit {0}) NumbersFault}
    (cond (nat_lt limit count) (Err (faults.TooLarge (limit + 1))) (Ok tt)) (Ok nothing) →
    count ≤ limit
few_ok limit count nothing e = by (nat_lt limit count) refl e
  where
    by : (many : Bool) → nat_lt limit count ≡ many →
        ◌≡◌ {A = Result (Unit {0}) NumbersFault}
        (cond many (Err (faults.TooLarge (limit + 1))) (Ok tt)) (Ok nothing) →
        count ≤ limit
    by true many e = absurd (cc)
    by false many e = ltb-false limit count many

-- a fraction that is narrow is the one that was found
pub narrow_ok : (p found : Fraction) → narrow p ≡ Ok found → p ≡ found
narrow_ok p found e = by (nat_lt p.whole (2 ^ 128)) e
  where
    by : (small : Bool) →
        ◌≡◌ {A = Result Fraction NumbersFault} (cond small (Ok p) (Err faults.TooWide)) (Ok found) →
        p ≡ found
    by true e = cc
    by false e = absurd (cc)

-- where `generate` finds a fraction, its answer has its meaning
pub tests : (seed : ℕ) (fraction : Fraction) → generated seed ≡ Ok fraction →
    AnswersGenerate seed (generated_lines seed fraction)
tests seed fraction e =
    let table = seed_table seed in
    let a = stepped (finished square_outcome) (λ nothing. tested_square table) fraction e in
    let run = finished_ok square_outcome a.0 a.1 in
    let c = certified square_matrix Grevlex most_looks run.0 run.1 square_design
    (subst (RunEnds square_matrix Grevlex most_looks) run.2 square_run) in
    let found = or_ok numbers_refusal (tested most_tables square_matrix square_measure table)
    fraction a.2 in
    let p = exact_p_value square_matrix square_measure table in
    let b = stepped (small_enough most_tables (fiber_of square_matrix table)) (λ few. narrow p)
    fraction found in
    let own = narrow_ok p fraction b.2 in
    let test = is_exact_test square_matrix square_design (c.0).moves c.5 table (table_cells seed)
    square_measure in
    record {
      certificate = c.0;
      rings = rings_of square_matrix (c.0).moves table;
      fraction = fraction;
      matrix = c.1;
      valid = c.4;
      test = subst (λ f. IsExactTest square_matrix (c.0).moves square_measure table
          (rings_of square_matrix (c.0).moves table) f) own test;
      few = few_ok most_tables (length (fiber_of square_matrix table)) b.0 b.1;
      printed = refl;
    }
