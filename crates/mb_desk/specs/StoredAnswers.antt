-- What the answers of the commands mean that keep, print, write and take out records.
use Rattle.std.specs.FinMap.{get}
use Rattle.std.specs.Prelude.{List, None, Ok, Option, Some, ℕ, ◌++◌, ◌≡◌, ◌⊎◌}
use Rattle.mb_certificate.specs.Certificate.{AreParts, Certificate}
use Rattle.mb_certificate.specs.Written.{rules_text, text_of}
use Rattle.mb_data.specs.CrossTable.{CrossTable}
use Rattle.mb_data.specs.DatasetText.{dataset_of}
use Rattle.mb_data.specs.Written.{written}
use Rattle.mb_desk.specs.DatasetCommand.{cells_line}
use Rattle.mb_desk.specs.ExportCommand.{moves_file, wrote_line}
use Rattle.mb_desk.specs.ModelCommand.{margins_line}
use Rattle.mb_desk.specs.Recorded.{added_line}
use Rattle.mb_desk.specs.RemoveCommand.{removed_line}
use Rattle.mb_desk.specs.World.{World}
use Rattle.mb_desk.specs.declared.parts.Part.{Part}
use Rattle.mb_desk.specs.declared.parts.Part.TheVariants as parts
use Rattle.mb_desk.specs.declared.requests.ModelWords.{ModelWords}
use Rattle.mb_kinds.specs.Kinds.{model_of}
use Rattle.mb_kinds.specs.Model.{ModelValue}
use Rattle.mb_kinds.specs.Record.{written_record}
use Rattle.mb_moves.specs.Written.{matrix_file}
use Rattle.mb_outside.specs.Files.{Held}
use Rattle.mb_outside.specs.Rows.{Rows}
use Rattle.mb_registry.specs.Bodies.{basis_text, model_record}
use Rattle.mb_registry.specs.Kinds.{key_of}
use Rattle.mb_registry.specs.Listing.{list_text, listed_of}
use Rattle.mb_registry.specs.Records.{referring_kind}
use Rattle.mb_registry.specs.Removing.{unused}
use Rattle.mb_registry.specs.declared.adding.Added.TheVariants.{Stored, Unchanged}
use Rattle.mb_registry.specs.declared.kinds.Kind.{Kind}
use Rattle.mb_registry.specs.declared.kinds.Kind.TheVariants.{Analysis, Basis, Dataset, Model}
use Rattle.mb_registry.specs.declared.listing.Listed.{Listed}
use Rattle.mb_reports.specs.Report.{IsReport, Report, report_text}

-- ---- records

-- the record of this kind and name has this body from now on. The answer says whether it was stored
-- now, where there was none, or had this body before; then come these lines
pub record IsKept (kind : Kind) (name body lines : List ℕ) (before after : Rows)
    (answer : List ℕ) : Type 0 where
  pub there : get after (key_of kind name) ≡ Some body
  pub said : ((get before (key_of kind name) ≡ None)
      × (answer ≡ added_line Stored kind name ++ lines))
      ⊎ ((get before (key_of kind name) ≡ Some body)
      × (answer ≡ added_line Unchanged kind name ++ lines))

-- the rows have this dataset under a name
abbrev pub HasDataset : Rows → List ℕ → CrossTable → Type 0
HasDataset rows name table = get rows (key_of Dataset name) ≡ Some (written table)

-- they have this model of the dataset of a name
abbrev pub HasModel : Rows → List ℕ → List ℕ → ModelValue → Type 0
HasModel rows name dataset model =
    get rows (key_of Model name) ≡ Some (written_record (model_record dataset model))

-- they have this certificate of a basis of the model of a name
abbrev pub HasBasis : Rows → List ℕ → List ℕ → Certificate → Type 0
HasBasis rows name model c = get rows (key_of Basis name) ≡ Some (basis_text model c)

-- ---- what each command answers

-- `dataset`: the text of the file reads as this dataset, whose written form is kept; its number of
-- cells and its total are printed
pub record AnswersDataset (w v : World) (name file answer : List ℕ) : Type 0 where
  pub text : List ℕ
  pub table : CrossTable
  pub there : get w.files file ≡ Some text
  pub read : dataset_of text ≡ Ok table
  pub kept : IsKept Dataset name (written table) (cells_line table) w.rows v.rows answer

-- the text of a file that may be named is there, or none is named
abbrev pub MayHold : Held → Option (List ℕ) → Option (List ℕ) → Type 0
MayHold held None text = text ≡ None
MayHold held (Some file) text = (body : List ℕ) × (text ≡ Some body) × (get held file ≡ Some body)

-- `model`: on the dataset that is kept, the model file, with the matrix file if one is given, says
-- this model, which is kept; the numbers of its margins and cells are printed
pub record AnswersModel (w v : World) (words : ModelWords) (answer : List ℕ) : Type 0 where
  pub text : List ℕ
  pub matrix_text : Option (List ℕ)
  pub table : CrossTable
  pub model : ModelValue
  pub there : get w.files words.file ≡ Some text
  pub matrix_there : MayHold w.files words.matrix matrix_text
  pub dataset : HasDataset w.rows words.dataset table
  pub read : model_of text matrix_text table ≡ Ok model
  pub kept : IsKept Model words.name (written_record (model_record words.dataset model))
      (margins_line model.matrix) w.rows v.rows answer

-- `report`: the analysis that is kept is the text of a report, which is printed
pub record AnswersReport (rows : Rows) (name answer : List ℕ) : Type 0 where
  pub report : Report
  pub is : IsReport report
  pub there : get rows (key_of Analysis name) ≡ Some (report_text report)
  pub printed : answer ≡ report_text report

-- `list`: every record is listed, by kind and then by name, with how many bytes its body has
pub record AnswersList (rows : Rows) (answer : List ℕ) : Type 0 where
  pub listed : List Listed
  pub all : listed_of rows ≡ Ok listed
  pub printed : answer ≡ list_text listed

-- a text is what is written of the basis of a name
abbrev pub IsOfBasis : Rows → List ℕ → List ℕ → (Certificate → List ℕ) → Type 0
IsOfBasis rows name text write =
    (model : List ℕ) × (c : Certificate) × HasBasis rows name model c × AreParts c
    × (text ≡ write c)

-- a text is the CSV of a dataset that is kept, the matrix file of a model, or of a basis the move
-- file, the certificate or the rules
abbrev pub IsPartOf : Part → List ℕ → Rows → List ℕ → Type 0
IsPartOf parts.Dataset name rows text =
    (table : CrossTable) × HasDataset rows name table × (text ≡ written table)
IsPartOf parts.Matrix name rows text =
    (dataset : List ℕ) × (model : ModelValue) × HasModel rows name dataset model
    × (text ≡ matrix_file model.matrix)
IsPartOf parts.Moves name rows text = IsOfBasis rows name text moves_file
IsPartOf parts.Certificate name rows text = IsOfBasis rows name text text_of
IsPartOf parts.Rules name rows text = IsOfBasis rows name text (λ c. rules_text c.rules)

-- `export`: the file holds that text from now on, and its number of bytes is printed
pub record AnswersExport (w v : World) (part : Part) (name file answer : List ℕ) : Type 0 where
  pub text : List ℕ
  pub part_of : IsPartOf part name w.rows text
  pub there : get v.files file ≡ Some text
  pub printed : answer ≡ wrote_line part name text

-- `remove`: the record was there and no other refers to it; it is gone, and that is printed
pub record AnswersRemove (before after : Rows) (kind : Kind) (name answer : List ℕ) : Type 0 where
  pub body : List ℕ
  pub there : get before (key_of kind name) ≡ Some body
  pub free : unused name (referring_kind kind) before ≡ Ok tt
  pub gone : get after (key_of kind name) ≡ None
  pub printed : answer ≡ removed_line kind name
