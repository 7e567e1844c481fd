-- The command `reach`: the tables that moves reach from a table, ring by ring.
use Rattle.std.specs.FinMap.{get}
use Rattle.std.specs.Prelude.{List, Ok, ℕ}
use Rattle.mb_desk.specs.Decision.{Decided, or_refusal}
use Rattle.mb_desk.specs.Inputs.{accepted, body_of}
use Rattle.mb_desk.specs.MovesCommand.{judged}
use Rattle.mb_desk.specs.Plans.{answers}
use Rattle.mb_desk.specs.declared.plans.Plan.{Plan}
use Rattle.mb_desk.specs.declared.plans.Stop.{Stop}
use Rattle.mb_desk.specs.declared.plans.Stop.TheVariants.{Memory, Refused}
use Rattle.mb_desk.specs.declared.refusals.Refusal.{Refusal}
use Rattle.mb_desk.specs.declared.refusals.Refusal.TheVariants as refusals
use Rattle.mb_desk.specs.declared.requests.ReachWords.{ReachWords}
use Rattle.mb_matrix.specs.Faults as matrices
use Rattle.mb_matrix.specs.Matrix.{Design}
use Rattle.mb_matrix.specs.declared.fault.MatrixFault.{MatrixFault}
use Rattle.mb_matrix.specs.declared.fault.MatrixFault.TheVariants as faults
use Rattle.mb_moves.specs.GridText.{matrix_of, moves_of}
use Rattle.mb_moves.specs.TableText.{table_in}
use Rattle.mb_outside.specs.Files.{Held}
use Rattle.mb_reports.specs.RingTable.{ring_table_of}
use Rattle.mb_rings.specs.Ring.{Ring}
use Rattle.mb_rings.specs.Walk.{walk_of}
use Rattle.mb_rings.specs.declared.fault.WalkFault.{WalkFault}
use Rattle.mb_rings.specs.declared.fault.WalkFault.TheVariants as walks
use Rattle.mb_tables.specs.Answers.{◌>>=◌}
use Rattle.mb_tables.specs.Rows.{Rows}

-- the refusal of a matrix for its fault; no matrix has the last of these
abbrev pub matrix_refusal : MatrixFault → Refusal
matrix_refusal faults.TooManyCells = refusals.TooManyCells
matrix_refusal faults.TooManyMargins = refusals.TooManyMargins
matrix_refusal (faults.Negative row cell) = refusals.Negative row cell
matrix_refusal (faults.EntryTooLarge row cell) = refusals.EntryTooLarge row cell
matrix_refusal (faults.ZeroColumn cell) = refusals.ZeroColumn cell
matrix_refusal faults.OutOfMemory = refusals.TooManyCells

-- why the work stops for the fault that a constructor of matrices answers
abbrev pub matrix_stop : MatrixFault → Stop
matrix_stop faults.OutOfMemory = Memory
matrix_stop fault = Refused (matrix_refusal fault)

-- the design matrix of an array, or the refusal of its first fault
abbrev pub designed : Rows → Decided Design
designed array = or_refusal matrix_refusal (matrices.matrix_of array)

-- the table of a table file, over so many cells
abbrev pub table_of : ℕ → Rows → Decided (List ℕ)
table_of cells file = or_refusal (λ _. refusals.NotATable 3) (table_in cells file)

-- the refusal of a walk; no definition has the last of these
abbrev pub walk_refusal : WalkFault → Refusal
walk_refusal (walks.TooLarge seen) = refusals.TooLarge seen
walk_refusal walks.OutOfMemory = refusals.TooLarge 0

-- the rings of the table under the moves: the matrix is tested first, then the widths, the moves
-- and the table
abbrev pub walked : ℕ → Rows → Rows → Rows → Decided (List Ring)
walked limit matrix moves file = do
  design ← designed matrix
  count ← judged matrix moves
  start ← table_of matrix.width file
  or_refusal walk_refusal (walk_of limit design moves.rows start)

-- the rings of three texts: the texts are read in order, and then the table is walked from
abbrev pub texts_rings : ℕ → List ℕ → List ℕ → List ℕ → Decided (List Ring)
texts_rings limit matrix_text moves_text table_text = do
  matrix ← accepted 1 (matrix_of matrix_text)
  moves ← accepted 2 (moves_of moves_text)
  file ← accepted 3 (moves_of table_text)
  walked limit matrix moves file

-- the rings that are found: the files are read in order, and then their texts
abbrev pub reach_rings : ReachWords → Held → Decided (List Ring)
reach_rings words held = do
  matrix_text ← body_of 1 (get held words.matrix)
  moves_text ← body_of 2 (get held words.moves)
  table_text ← body_of 3 (get held words.table)
  texts_rings words.limit matrix_text moves_text table_text

-- the plan of the command: the rings are printed
abbrev pub reach_plan : ReachWords → Held → Decided Plan
reach_plan words held = reach_rings words held >>= λ rings. Ok (answers (ring_table_of rings))
