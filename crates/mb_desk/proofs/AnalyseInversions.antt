-- What is known where `analyse` found the numbers of an exact test.
use Rattle.std.proofs.Common.{Bool, Err, List, None, Ok, Option, Result, Some, ap, cond, false, length, map, nat_lt, refl, subst, sum, sym, true, ℕ, ◌<◌, ◌^◌, ◌∙◌, ◌≡◌, ◌≤◌}
use Rattle.std.proofs.lemmas.Bool.{eqb-true, ltb-true}
use Rattle.mb_certificate.proofs.NoFaults.{valid-none}
use Rattle.mb_certificate.specs.Certificate.{AreParts, Certificate}
use Rattle.mb_certificate.specs.FirstFault.{first_fault}
use Rattle.mb_certificate.specs.Valid.{IsValid}
use Rattle.mb_certificate.specs.declared.line_fault.Fault.{Fault}
use Rattle.mb_checker.proofs.ValidCertificates.{valid-markov}
use Rattle.mb_data.specs.CrossTable.{counts}
use Rattle.mb_desk.proofs.FiberTests.{is_exact_test, sizes-sum}
use Rattle.mb_desk.proofs.Fitting.{Fits, or_ok}
use Rattle.mb_desk.proofs.GenerateInversions.{few_ok, narrow_ok}
use Rattle.mb_desk.proofs.KeptRecords.{kept_fits, kept_means}
use Rattle.mb_desk.proofs.LinkedRecords.{found_is, records_linked}
use Rattle.mb_desk.proofs.SameMatrices.{same-decides}
use Rattle.mb_desk.proofs.StoredInversions.{has_basis, has_dataset, has_model}
use Rattle.mb_desk.specs.AnalyseCommand.{analyse_plan, of_one_matrix, of_one_size, records_named, records_tested, report_named, report_of, reported, same_design}
use Rattle.mb_desk.specs.AnalysisAnswers.{AnswersAnalyse, tested_report}
use Rattle.mb_desk.specs.Changes.{changed}
use Rattle.mb_desk.specs.Decision.{Decided}
use Rattle.mb_desk.specs.ExactTest.{IsExactTest, Numbers, accepted, narrow, numbers_of, small_enough, tested}
use Rattle.mb_desk.specs.GenerateCommand.{numbers_refusal}
use Rattle.mb_desk.specs.Recorded.{kept_plan}
use Rattle.mb_desk.specs.StoredAnswers.{HasBasis, HasDataset, HasModel, IsKept}
use Rattle.mb_desk.specs.World.{World}
use Rattle.mb_desk.specs.declared.commands.analyse.Records.{Records}
use Rattle.mb_desk.specs.declared.exact_test.NumbersFault.{NumbersFault}
use Rattle.mb_desk.specs.declared.exact_test.NumbersFault.TheVariants as faults
use Rattle.mb_desk.specs.declared.plans.Plan.{Plan}
use Rattle.mb_desk.specs.declared.refusals.Refusal.{Refusal}
use Rattle.mb_desk.specs.declared.requests.AnalyseWords.{AnalyseWords}
use Rattle.mb_matrix.specs.MarkovBasis.{IsMarkovBasis}
use Rattle.mb_matrix.specs.Matrix.{Design, IsDesign, fiber_of}
use Rattle.mb_matrix.specs.Measure.{Weighting}
use Rattle.mb_outside.specs.Rows.{Rows}
use Rattle.mb_registry.specs.Looking.{basis_named, dataset_named, model_named}
use Rattle.mb_registry.specs.declared.kinds.Kind.TheVariants.{Analysis, Basis}
use Rattle.mb_reports.specs.Report.{report_text}
use Rattle.mb_rings.specs.Ring.{Ring, rings_of}
use Rattle.mb_tables.specs.Answers.{◌>>=◌}
use Rattle.mb_text.proofs.RecordSteps.{stepped}
use Rattle.mb_weights.specs.PValue.{Fraction, exact_p_value}
use Rattle.mb_weights.specs.Weight.{weight_of}

-- ---- the records

-- records that were found
record AreFound (rows : Rows) (basis : List ℕ) (records : Records) : Type 0 where
  parts : AreParts records.certificate
  basis_there : HasBasis rows basis records.model_name records.certificate
  model_there : HasModel rows records.model_name records.dataset_name records.model
  dataset_there : HasDataset rows records.dataset_name records.dataset

-- they are in their rows
are_found : (rows : Rows) (basis : List ℕ) (records : Records) →
    records_named basis rows ≡ Ok records → AreFound rows basis records
are_found rows basis records e =
    let linked = records_linked rows basis records e in
    let read =
    has_basis rows basis records.model_name records.certificate
    (found_is (basis_named basis) rows _ linked.basis_there) in
    record {
      parts = (read.2).parts;
      basis_there = read.1 ∙ ap Some (read.2).written;
      model_there =
          has_model rows records.model_name records.dataset_name records.model
          (found_is (model_named records.model_name) rows _ linked.model_there);
      dataset_there =
          has_dataset rows records.dataset_name records.dataset
          (found_is (dataset_named records.dataset_name) rows _ linked.dataset_there);
    }

-- ---- the tests

-- a test that went on passed
passed_ok : (test : Bool) (refusal : Refusal) (nothing : Unit {0}) →
    (let d : Decided (Unit {0}) = cond test (Ok tt) (Err refusal) in d) ≡ Ok nothing → test ≡ true
passed_ok true refusal nothing e = refl
passed_ok false refusal nothing e = absurd (cc)

-- no line of a certificate that is accepted is wrong
accepted_ok : (first : Option Fault) (nothing : Unit {0}) → accepted first ≡ Ok nothing →
    first ≡ None
accepted_ok None nothing e = refl
accepted_ok (Some fault) nothing e = absurd (cc)

-- a fraction that is narrow is below 2^128
narrow_below : (p found : Fraction) → narrow p ≡ Ok found → p.whole < 2 ^ 128
narrow_below p found e = by (nat_lt p.whole (2 ^ 128)) refl e
  where
    by : (small : Bool) → nat_lt p.whole (2 ^ 128) ≡ small →
        ◌≡◌ {A = Result Fraction NumbersFault} (cond small (Ok p) (Err faults.TooWide)) (Ok found) →
        p.whole < 2 ^ 128
    by true small e = ltb-true p.whole (2 ^ 128) small
    by false small e = absurd (cc)

-- ---- the numbers

-- the numbers of an exact test by a valid certificate
abbrev numbers_are : Certificate → Weighting → List ℕ → Fraction → Numbers
numbers_are c measure observed fraction = record {
  sizes = map (length {A = List ℕ}) (rings_of c.matrix c.moves observed);
  weight = weight_of measure observed;
  fraction = fraction;
}

-- what is known of them
record AreOf (limit : ℕ) (c : Certificate) (measure : Weighting) (observed : List ℕ)
    (numbers : Numbers) : Type 0 where
  right : first_fault c ≡ None
  few : length (fiber_of c.matrix observed) ≤ limit
  below : (exact_p_value c.matrix measure observed).whole < 2 ^ 128
  same : numbers_are c measure observed (exact_p_value c.matrix measure observed) ≡ numbers

are_of : (limit : ℕ) (c : Certificate) (measure : Weighting) (observed : List ℕ)
    (numbers : Numbers) → numbers_of limit c measure observed ≡ Ok numbers →
    AreOf limit c measure observed numbers
are_of limit c measure observed numbers e =
    let p = exact_p_value c.matrix measure observed in
    let a = stepped (accepted (first_fault c))
    (λ right. tested limit c.matrix measure observed >>= λ fraction.
    Ok (numbers_are c measure observed fraction)) numbers e in
    let b = stepped (tested limit c.matrix measure observed)
    (λ fraction. Ok (numbers_are c measure observed fraction)) numbers a.2 in
    let t = stepped (small_enough limit (fiber_of c.matrix observed)) (λ few. narrow p) b.0 b.1 in
    record {
      right = accepted_ok (first_fault c) a.0 a.1;
      few = few_ok limit (length (fiber_of c.matrix observed)) t.0 t.1;
      below = narrow_below p b.0 t.2;
      same = ap (numbers_are c measure observed) (narrow_ok p b.0 t.2)
          ∙ one_of (numbers_are c measure observed b.0) numbers b.2;
    }
  where
    one_of : (x y : Numbers) → ◌≡◌ {A = Result Numbers NumbersFault} (Ok x) (Ok y) → x ≡ y
    one_of x y f = cc

-- what is known where the report was made
record IsReported (words : AnalyseWords) (records : Records) (report : List ℕ) : Type 0 where
  matrix : records.certificate.matrix ≡ records.model.matrix
  cells : length records.model.matrix.columns ≡ length (counts records.dataset.entries)
  numbers : Numbers
  are : AreOf words.limit records.certificate records.model.measure (counts records.dataset.entries)
      numbers
  text : report_text (report_of words records numbers) ≡ report

is_reported : (words : AnalyseWords) (records : Records) (report : List ℕ) →
    reported words records ≡ Ok report → IsReported words records report
is_reported words records report e =
    let made = λ (numbers : Numbers). report_text (report_of words records numbers) in
    let a = stepped (of_one_matrix words.basis records)
    (λ matrix. of_one_size records >>= λ cells. records_tested words.limit records >>= λ numbers.
    Ok (report_text (report_of words records numbers))) report e in
    let b = stepped (of_one_size records)
    (λ cells. records_tested words.limit records >>= λ numbers.
    Ok (report_text (report_of words records numbers))) report a.2 in
    let t = stepped (records_tested words.limit records)
    (λ numbers. Ok (report_text (report_of words records numbers))) report b.2 in
    record {
      matrix = (same-decides records.certificate.matrix records.model.matrix).0
          (passed_ok (same_design records.certificate.matrix records.model.matrix) _ a.0 a.1);
      cells = eqb-true (length records.model.matrix.columns)
          (length (counts records.dataset.entries)) (passed_ok _ _ b.0 b.1);
      numbers = t.0;
      are = are_of words.limit records.certificate records.model.measure
          (counts records.dataset.entries) t.0
          (or_ok numbers_refusal (numbers_of words.limit records.certificate records.model.measure
          (counts records.dataset.entries)) t.0 t.1);
      text = one_of (report_text (report_of words records t.0)) report t.2;
    }
  where
    one_of : (x y : List ℕ) → (let d : Decided (List ℕ) = Ok x in d) ≡ Ok y → x ≡ y
    one_of x y f = cc

-- the plan of `analyse` fits
pub analyse_fits : (words : AnalyseWords) (w : World) (plan : Plan) →
    analyse_plan words w.rows ≡ Ok plan → Fits plan.change w
analyse_fits words w plan e =
    let a = stepped (report_named words w.rows) (λ report.
    kept_plan Analysis words.name (Some (Basis, words.basis)) report report w.rows) plan e in
    kept_fits Analysis words.name (Some (Basis, words.basis)) a.0 a.0 w plan a.2

-- the report that is kept is that of the exact test
same_report : (words : AnalyseWords) (records : Records) (numbers : Numbers) (report : List ℕ) →
    AreOf words.limit records.certificate records.model.measure (counts records.dataset.entries)
    numbers → records.certificate.matrix ≡ records.model.matrix →
    report_text (report_of words records numbers) ≡ report →
    report ≡ report_text (tested_report words.name words.basis records.model_name
    records.dataset_name records.model (counts records.dataset.entries)
    (rings_of records.model.matrix records.certificate.moves (counts records.dataset.entries))
    (exact_p_value records.model.matrix records.model.measure (counts records.dataset.entries)))
same_report words records numbers report are matrix text =
    sym text ∙ ap (λ (n : Numbers). report_text (report_of words records n)) (sym are.same)
    ∙ ap (λ (m : Design). report_text (tested_report words.name words.basis records.model_name
    records.dataset_name records.model (counts records.dataset.entries)
    (rings_of m records.certificate.moves (counts records.dataset.entries))
    (exact_p_value m records.model.measure (counts records.dataset.entries)))) matrix

-- the rings of the exact test of the records' table, and its p-value
abbrev pub rings_in : Records → List Ring
rings_in records =
    rings_of records.model.matrix records.certificate.moves (counts records.dataset.entries)

abbrev pub p_value_in : Records → Fraction
p_value_in records =
    exact_p_value records.model.matrix records.model.measure (counts records.dataset.entries)

-- what is known of the report that is made of rows
pub record IsAnalysed (words : AnalyseWords) (rows : Rows) (report : List ℕ) : Type 0 where
  pub records : Records
  pub named : records_named words.basis rows ≡ Ok records
  pub matrix : records.certificate.matrix ≡ records.model.matrix
  pub cells : length (counts records.dataset.entries) ≡ length records.model.matrix.columns
  pub design : IsDesign records.model.matrix
  pub valid : IsValid records.certificate
  pub test : IsExactTest records.model.matrix records.certificate.moves records.model.measure
      (counts records.dataset.entries) (rings_in records) (p_value_in records)
  pub few : length (fiber_of records.model.matrix (counts records.dataset.entries)) ≤ words.limit
  pub tables : sum (map (length {A = List ℕ}) (rings_in records))
      ≡ length (fiber_of records.model.matrix (counts records.dataset.entries))
  pub narrow : (p_value_in records).whole < 2 ^ 128
  pub text : report ≡ report_text (tested_report words.name words.basis records.model_name
      records.dataset_name records.model (counts records.dataset.entries) (rings_in records)
      (p_value_in records))

pub is_analysed : (words : AnalyseWords) (rows : Rows) (report : List ℕ) →
    report_named words rows ≡ Ok report → IsAnalysed words rows report
is_analysed words rows report e =
    let b = stepped (records_named words.basis rows) (reported words) report e in
    let records = b.0 in
    let c = records.certificate in
    let model = records.model in
    let observed = counts records.dataset.entries in
    let there = are_found rows words.basis records b.1 in
    let told = is_reported words records report b.2 in
    let valid = valid-none c there.parts told.are.right in
    let design = subst IsDesign told.matrix there.parts.design in
    let basis = subst (λ (m : Design). IsMarkovBasis m c.moves) told.matrix
    (valid-markov c valid there.parts) in
    let long : length observed ≡ length model.matrix.columns = sym told.cells in
    record {
      records = records;
      named = b.1;
      matrix = told.matrix;
      cells = long;
      design = design;
      valid = valid;
      test = is_exact_test model.matrix design c.moves basis observed long model.measure;
      few = subst (λ (m : Design). length (fiber_of m observed) ≤ words.limit) told.matrix
          told.are.few;
      tables = sizes-sum model.matrix design c.moves basis observed long;
      narrow = subst (λ (m : Design). (exact_p_value m model.measure observed).whole < 2 ^ 128)
          told.matrix told.are.below;
      text = same_report words records told.numbers report told.are told.matrix told.text;
    }

-- and its answer has its meaning
pub analyse_means : (words : AnalyseWords) (w : World) (plan : Plan) →
    analyse_plan words w.rows ≡ Ok plan →
    AnswersAnalyse words w.rows (changed plan.change w).rows plan.answer
analyse_means words w plan e =
    let a = stepped (report_named words w.rows) (λ report.
    kept_plan Analysis words.name (Some (Basis, words.basis)) report report w.rows) plan e in
    let is = is_analysed words w.rows a.0 a.1 in
    let records = is.records in
    let there = are_found w.rows words.basis records is.named in
    record {
      model_name = records.model_name;
      dataset_name = records.dataset_name;
      certificate = records.certificate;
      model = records.model;
      dataset = records.dataset;
      rings = rings_in records;
      fraction = p_value_in records;
      basis_there = there.basis_there;
      model_there = there.model_there;
      dataset_there = there.dataset_there;
      matrix = is.matrix;
      cells = is.cells;
      valid = is.valid;
      test = is.test;
      few = is.few;
      tables = is.tables;
      narrow = is.narrow;
      kept = subst (λ text. IsKept Analysis words.name text text w.rows (changed plan.change w).rows
          plan.answer) is.text
          (kept_means Analysis words.name (Some (Basis, words.basis)) a.0 a.0 w plan a.2);
    }
