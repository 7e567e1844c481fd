-- What an answer of the desk means, in the words of the field.
use Rattle.std.specs.FinMap.{get}
use Rattle.std.specs.Prelude.{All, List, Ok, Some, [], length, map, pos, sum, ℕ, ◌↔◌, ◌∷◌, ◌≡◌, ◌≤◌}
use Rattle.mb_certificate.specs.Certificate.{AreParts, Certificate}
use Rattle.mb_certificate.specs.Valid.{IsValid}
use Rattle.mb_certificate.specs.Written.{text_of}
use Rattle.mb_desk.specs.AnalysisAnswers.{AnswersAnalyse, AnswersBasis}
use Rattle.mb_desk.specs.CheckCommand.{joins_line}
use Rattle.mb_desk.specs.ExactTest.{HasDistances, IsExactTest}
use Rattle.mb_desk.specs.GenerateCommand.{seed_table, square_matrix, square_measure, test_lines}
use Rattle.mb_desk.specs.ImportAnswers.{AnswersImport}
use Rattle.mb_desk.specs.MovesCommand.{moves_line}
use Rattle.mb_desk.specs.StoredAnswers.{AnswersDataset, AnswersExport, AnswersList, AnswersModel, AnswersRemove, AnswersReport}
use Rattle.mb_desk.specs.World.{World}
use Rattle.mb_desk.specs.declared.requests.MovesWords.{MovesWords}
use Rattle.mb_desk.specs.declared.requests.ReachWords.{ReachWords}
use Rattle.mb_desk.specs.declared.requests.Request.{Request}
use Rattle.mb_desk.specs.declared.requests.Request.TheVariants as requests
use Rattle.mb_matrix.specs.Ascending.{occurrences}
use Rattle.mb_matrix.specs.Matrix.{IsDesign, design_of, fiber_of}
use Rattle.mb_matrix.specs.MarkovBasis.{IsMarkovBasis}
use Rattle.mb_moves.specs.GridText.{matrix_of, moves_of}
use Rattle.mb_outside.specs.Files.{Held}
use Rattle.mb_reports.specs.RingTable.{ring_table_of}
use Rattle.mb_rings.specs.Ring.{Ring, tables_of}
use Rattle.mb_rings.specs.Walk.{most_tables}
use Rattle.mb_tables.specs.Chain.{Joined}
use Rattle.mb_tables.specs.Limits.{largest_total}
use Rattle.mb_tables.specs.Lists.{In}
use Rattle.mb_tables.specs.Rows.{IsMoveOf, Rows}
use Rattle.mb_weights.specs.PValue.{Fraction}

-- ---- what a named file reads as

-- the file of a name is there, and its text is a matrix
pub record ReadsMatrix (held : Held) (name : List ℕ) (matrix : Rows) : Type 0 where
  pub text : List ℕ
  pub there : get held name ≡ Some text
  pub read : matrix_of text ≡ Ok matrix

-- it is there, and its text is a list of moves, one a row
pub record ReadsMoves (held : Held) (name : List ℕ) (moves : Rows) : Type 0 where
  pub text : List ℕ
  pub there : get held name ≡ Some text
  pub read : moves_of text ≡ Ok moves

-- it is there, and its text is a table over so many cells: the only row of a move file, of counts
-- that add up to at most 1,000,000
pub record ReadsTable (held : Held) (name : List ℕ) (cells : ℕ) (table : List ℕ) : Type 0 where
  pub only : ReadsMoves held name (record { width = cells; rows = map pos table ∷ [] })
  pub total : sum table ≤ largest_total

-- ---- what each command answers

-- `moves`: each row of the second file is a move of the matrix in the first, and their number is
-- printed
pub record AnswersMoves (held : Held) (words : MovesWords) (answer : List ℕ) : Type 0 where
  pub matrix : Rows
  pub moves : Rows
  pub matrix_read : ReadsMatrix held words.matrix matrix
  pub moves_read : ReadsMoves held words.moves moves
  pub width : moves.width ≡ matrix.width
  pub each : All (IsMoveOf matrix.rows) moves.rows
  pub printed : answer ≡ moves_line (length moves.rows)

-- `reach`: the first file is a design matrix, each row of the second is a move of it, and the third
-- is a table; ring k has the tables at distance k from it; exactly the tables that the moves join
-- to it are printed, each once, ring by ring, and they are no more than the limit
pub record AnswersReach (held : Held) (words : ReachWords) (answer : List ℕ) : Type 0 where
  pub matrix : Rows
  pub moves : Rows
  pub table : List ℕ
  pub rings : List Ring
  pub matrix_read : ReadsMatrix held words.matrix matrix
  pub moves_read : ReadsMoves held words.moves moves
  pub table_read : ReadsTable held words.table matrix.width table
  pub design : IsDesign (design_of matrix)
  pub width : moves.width ≡ matrix.width
  pub each : All (IsMoveOf matrix.rows) moves.rows
  pub distance : HasDistances moves.rows table rings
  pub joined : (v : List ℕ) → In v (tables_of rings) ↔ Joined moves.rows table v
  pub once : (v : List ℕ) → In v (tables_of rings) → occurrences v (tables_of rings) ≡ 1
  pub few : length (tables_of rings) ≤ words.limit
  pub printed : answer ≡ ring_table_of rings

-- `check`: the file holds the one text of a valid certificate, whose moves are a Markov basis of
-- its matrix; the numbers of its rules, moves and joins are printed
pub record AnswersCheck (held : Held) (name answer : List ℕ) : Type 0 where
  pub certificate : Certificate
  pub there : get held name ≡ Some (text_of certificate)
  pub parts : AreParts certificate
  pub valid : IsValid certificate
  pub basis : IsMarkovBasis certificate.matrix certificate.moves
  pub printed : answer ≡ joins_line certificate

-- `generate`: under independence, the exact test of the 4 x 4 table of the seed by the moves of
-- some valid certificate; the table is printed, how many tables its fiber has, and its exact
-- p-value
pub record AnswersGenerate (seed : ℕ) (answer : List ℕ) : Type 0 where
  pub certificate : Certificate
  pub rings : List Ring
  pub fraction : Fraction
  pub matrix : certificate.matrix ≡ square_matrix
  pub valid : IsValid certificate
  pub test : IsExactTest square_matrix certificate.moves square_measure (seed_table seed) rings
      fraction
  pub few : length (fiber_of square_matrix (seed_table seed)) ≤ most_tables
  pub printed : answer ≡ test_lines (seed_table seed)
      (length (fiber_of square_matrix (seed_table seed))) fraction

-- the answer is that of the request, over the world before and after
abbrev pub Answers : Request → World → World → List ℕ → Type 0
Answers (requests.Moves words) w v answer = AnswersMoves w.files words answer
Answers (requests.Reach words) w v answer = AnswersReach w.files words answer
Answers (requests.Check certificate) w v answer = AnswersCheck w.files certificate answer
Answers (requests.Generate seed workers) w v answer = AnswersGenerate seed answer
Answers (requests.Dataset name file) w v answer = AnswersDataset w v name file answer
Answers (requests.Model words) w v answer = AnswersModel w v words answer
Answers (requests.Basis words) w v answer = AnswersBasis words w.rows v.rows answer
Answers (requests.Analyse words) w v answer = AnswersAnalyse words w.rows v.rows answer
Answers (requests.Import words) w v answer = AnswersImport w v words answer
Answers (requests.Report name) w v answer = AnswersReport w.rows name answer
Answers requests.List w v answer = AnswersList w.rows answer
Answers (requests.Export part name file) w v answer = AnswersExport w v part name file answer
Answers (requests.Remove kind name) w v answer = AnswersRemove w.rows v.rows kind name answer
