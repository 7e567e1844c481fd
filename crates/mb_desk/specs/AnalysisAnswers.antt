-- What the answers of `basis`, `import` and `analyse` mean, in the words of the field.
use Rattle.std.specs.Prelude.{List, length, map, sum, ℕ, ◌<◌, ◌^◌, ◌≡◌, ◌≤◌}
use Rattle.mb_certificate.specs.Certificate.{Certificate}
use Rattle.mb_certificate.specs.Valid.{IsValid}
use Rattle.mb_completion.specs.Basis.{IsReducedBasis}
use Rattle.mb_completion.specs.Run.{Finished, RunEnds}
use Rattle.mb_data.specs.CrossTable.{CrossTable, counts}
use Rattle.mb_desk.specs.BasisCommand.{completion_lines}
use Rattle.mb_desk.specs.ExactTest.{IsExactTest}
use Rattle.mb_desk.specs.StoredAnswers.{HasBasis, HasDataset, HasModel, IsKept}
use Rattle.mb_desk.specs.declared.requests.AnalyseWords.{AnalyseWords}
use Rattle.mb_desk.specs.declared.requests.BasisWords.{BasisWords}
use Rattle.mb_kinds.specs.Model.{ModelValue}
use Rattle.mb_matrix.specs.MarkovBasis.{IsMarkovBasis}
use Rattle.mb_matrix.specs.Matrix.{fiber_of}
use Rattle.mb_order.specs.Rewriting.{Rule}
use Rattle.mb_outside.specs.Rows.{Rows}
use Rattle.mb_registry.specs.Bodies.{basis_text}
use Rattle.mb_registry.specs.declared.kinds.Kind.TheVariants.{Analysis, Basis}
use Rattle.mb_reports.specs.Report.{Report, report_text}
use Rattle.mb_rings.specs.Ring.{Ring}
use Rattle.mb_weights.specs.PValue.{Fraction}
use Rattle.mb_weights.specs.Weight.{weight_of}

-- `basis`: the model of the name is completed, and the certificate of its reduced basis, whose
-- moves are a Markov basis of its design matrix, is kept; the numbers of looks, rules and moves are
-- printed
pub record AnswersBasis (words : BasisWords) (before after : Rows) (answer : List ℕ) : Type 0 where
  pub dataset : List ℕ
  pub model : ModelValue
  pub certificate : Certificate
  pub final : List Rule
  pub looks : ℕ
  pub model_there : HasModel before words.model dataset model
  pub matrix : certificate.matrix ≡ model.matrix
  pub order : certificate.order ≡ words.order
  pub completed : RunEnds model.matrix words.order words.looks (Finished final looks)
  pub reduced : IsReducedBasis model.matrix words.order certificate.rules
  pub valid : IsValid certificate
  pub basis : IsMarkovBasis model.matrix certificate.moves
  pub kept : IsKept Basis words.name (basis_text words.model certificate)
      (completion_lines (record { certificate = certificate; looks = looks })) before after answer

-- the report, under a name, on the exact test of a dataset's table, by the names of the records
abbrev pub tested_report :
    List ℕ → List ℕ → List ℕ → List ℕ → ModelValue → List ℕ → List Ring → Fraction → Report
tested_report name basis model_name dataset_name model observed rings fraction = record {
  name = name;
  basis = basis;
  model = model_name;
  dataset = dataset_name;
  observed = observed;
  rings = map length rings;
  weight = weight_of model.measure observed;
  below = fraction.below;
  whole = fraction.whole;
}

-- `analyse`, of whatever the rows hold: the basis of the name is a valid certificate of the design
-- matrix of the model that it names, whose cells are those of the dataset that this names; the
-- exact test of the dataset's table by the moves of the basis is kept and printed
pub record AnswersAnalyse (words : AnalyseWords) (before after : Rows) (answer : List ℕ) : Type 0
  where
    pub model_name : List ℕ
    pub dataset_name : List ℕ
    pub certificate : Certificate
    pub model : ModelValue
    pub dataset : CrossTable
    pub rings : List Ring
    pub fraction : Fraction
    pub basis_there : HasBasis before words.basis model_name certificate
    pub model_there : HasModel before model_name dataset_name model
    pub dataset_there : HasDataset before dataset_name dataset
    pub matrix : certificate.matrix ≡ model.matrix
    pub cells : length (counts dataset.entries) ≡ length model.matrix.columns
    pub valid : IsValid certificate
    pub test : IsExactTest model.matrix certificate.moves model.measure (counts dataset.entries)
        rings fraction
    -- the fiber is within the limit, its tables are those of the rings, and its weights are within
    -- 2^128
    pub few : length (fiber_of model.matrix (counts dataset.entries)) ≤ words.limit
    pub tables : sum (map (length {A = List ℕ}) rings)
        ≡ length (fiber_of model.matrix (counts dataset.entries))
    pub narrow : fraction.whole < 2 ^ 128
    pub kept : IsKept Analysis words.name
        (report_text (tested_report words.name words.basis model_name dataset_name model
        (counts dataset.entries) rings fraction))
        (report_text (tested_report words.name words.basis model_name dataset_name model
        (counts dataset.entries) rings fraction)) before after answer
