-- The command `import`: moves of a file are proved a Markov basis beside the certificate of a
-- basis, and kept with it as a new one.
use Rattle.std.specs.FinMap.{get}
use Rattle.std.specs.Prelude.{Err, List, None, Ok, Option, Some, [], if◌then◌else◌, length, nat_eq, nat_lt, suc, ℕ, ℤ, ◌+◌, ◌∷◌}
use Rattle.mb_certificate.specs.Certificate.{Certificate, Path}
use Rattle.mb_certificate.specs.FirstFault.{move_fault}
use Rattle.mb_certificate.specs.Valid.{free_rules}
use Rattle.mb_certificate.specs.declared.line_fault.Reason.{Reason}
use Rattle.mb_desk.specs.BasisCommand.{certificate_lines}
use Rattle.mb_desk.specs.CheckCommand.{judged}
use Rattle.mb_desk.specs.Decision.{Decided}
use Rattle.mb_desk.specs.Inputs.{accepted, body_of}
use Rattle.mb_desk.specs.LeastPaths.{least_path}
use Rattle.mb_desk.specs.Recorded.{found, kept_plan}
use Rattle.mb_desk.specs.World.{World}
use Rattle.mb_desk.specs.declared.plans.Plan.{Plan}
use Rattle.mb_desk.specs.declared.plans.Stop.{Stop}
use Rattle.mb_desk.specs.declared.plans.Stop.TheVariants.{Memory, Refused}
use Rattle.mb_desk.specs.declared.refusals.Refusal.TheVariants as refusals
use Rattle.mb_desk.specs.declared.requests.ImportWords.{ImportWords}
use Rattle.mb_matrix.specs.Matrix.{Design}
use Rattle.mb_moves.specs.GridText.{moves_of}
use Rattle.mb_outside.specs.Files.{Held}
use Rattle.mb_outside.specs.Rows as kept_rows
use Rattle.mb_paths.specs.Beside.{left_table, right_table, with_moves}
use Rattle.mb_paths.specs.Between.{ball}
use Rattle.mb_paths.specs.declared.beside_fault.BesideFault.{BesideFault}
use Rattle.mb_paths.specs.declared.beside_fault.BesideFault.TheVariants as faults
use Rattle.mb_registry.specs.Bodies.{basis_text}
use Rattle.mb_registry.specs.Looking.{basis_named}
use Rattle.mb_registry.specs.declared.kinds.Kind.TheVariants.{Basis, Model}
use Rattle.mb_rings.specs.Ring.{reached, rings_of}
use Rattle.mb_tables.specs.Answers.{◌>>=◌}
use Rattle.mb_tables.specs.Rows.{Rows}

-- ---- moves beside a certificate

-- why the work stops for the fault of moves beside a certificate
abbrev pub beside_stop : Certificate → Rows → BesideFault → Stop
beside_stop c moves faults.WidthDiffers =
    Refused (refusals.WidthDiffers (length c.matrix.columns) moves.width)
beside_stop c moves (faults.NotAMove row) = Refused (refusals.NotAMove row)
beside_stop c moves (faults.NotBasis rule left right) = Refused (refusals.NotBasis rule left right)
beside_stop c moves (faults.TooLarge rule seen) = Refused (refusals.TooLargeRule rule seen)
beside_stop c moves faults.OutOfMemory = Memory

-- the moves are to have the matrix's width
abbrev pub of_one_width : Design → Rows → Decided (Unit {0})
of_one_width matrix moves =
    if nat_eq moves.width (length matrix.columns)
    then Ok tt
    else Err (refusals.WidthDiffers (length matrix.columns) moves.width)

-- each is to be a move of the matrix; the first that isn't is refused, with its number
abbrev pub moved_on : ℕ → Option Reason → Decided (Unit {0}) → Decided (Unit {0})
moved_on row None later = later
moved_on row (Some reason) later = Err (refusals.NotAMove row)

-- the same of moves that are counted from this number
unfoldable pub all_moves : Design → ℕ → List (List ℤ) → Decided (Unit {0})
all_moves matrix row [] = Ok tt
all_moves matrix row (move ∷ moves) =
    moved_on row (move_fault matrix move) (all_moves matrix (suc row) moves)

-- the refusal of a rule with too many tables on the way from one side to the other
abbrev pub too_large : ℕ → ℕ → Decided Path
too_large limit k = Err (refusals.TooLargeRule k (limit + 1))

-- the path of rule k, where there is one: the tables that are no farther from its left side than
-- the right one are to be within the limit. Where there is none, all reached tables have to be, and
-- then the moves are no Markov basis
abbrev pub path_by : ℕ → Certificate → List (List ℤ) → ℕ → Option (List ℤ) → Decided Path
path_by limit c moves k (Some steps) =
    if nat_lt limit (length (ball c.matrix moves (left_table c k) (length steps)))
    then too_large limit k
    else Ok (record { rule = k; steps = steps })
path_by limit c moves k None =
    if nat_lt limit (length (reached c.matrix moves (left_table c k)))
    then too_large limit k
    else Err (refusals.NotBasis k (left_table c k) (right_table c k))

-- the path of rule k: the least one from its left side to its right one, of which no table is
-- farther than the last ring
unfoldable pub path_of : ℕ → Certificate → List (List ℤ) → ℕ → Decided Path
path_of limit c moves k =
    path_by limit c moves k
    (least_path moves (length (rings_of c.matrix moves (left_table c k)))
    (left_table c k) (right_table c k))

-- the paths of rules, in order
unfoldable pub paths_of : ℕ → Certificate → List (List ℤ) → List ℕ → Decided (List Path)
paths_of limit c moves [] = Ok []
paths_of limit c moves (k ∷ numbers) = do
  path ← path_of limit c moves k
  paths ← paths_of limit c moves numbers
  Ok (path ∷ paths)

-- the certificate with these moves, and the least paths that they have for its margin-free rules
abbrev pub beside_of : ℕ → Certificate → Rows → Decided Certificate
beside_of limit c moves = do
  width ← of_one_width c.matrix moves
  each ← all_moves c.matrix 1 moves.rows
  paths ← paths_of limit c moves.rows (free_rules c.matrix.rows c.rules)
  Ok (with_moves c moves.rows paths)

-- ---- the plan

-- the moves that the text of the file says
abbrev pub moves_file : List ℕ → Held → Decided Rows
moves_file file held = body_of 1 (get held file) >>= λ text. accepted 1 (moves_of text)

-- a certificate is checked, and then the moves beside it
abbrev pub checked_beside : ℕ → Rows → Certificate → Decided Certificate
checked_beside limit moves c = judged c >>= λ right. beside_of limit right moves

-- the same of the certificate of the basis of a name; the name of its model comes first
abbrev pub imported : ImportWords → Rows → kept_rows.Rows → Decided (List ℕ × Certificate)
imported words moves rows = do
  proved ← found (basis_named words.basis) rows
  new ← checked_beside words.limit moves proved.1
  Ok (proved.0, new)

-- the new basis is kept, of the same model
abbrev pub import_kept : List ℕ → List ℕ × Certificate → kept_rows.Rows → Decided Plan
import_kept name proved rows =
    kept_plan Basis name (Some (Model, proved.0)) (basis_text proved.0 proved.1)
    (certificate_lines proved.1) rows

-- the same, once the moves were read
abbrev pub import_added : ImportWords → Rows → kept_rows.Rows → Decided Plan
import_added words moves rows =
    imported words moves rows >>= λ proved. import_kept words.name proved rows

-- the plan of the command: the file is read first
abbrev pub import_plan : ImportWords → World → Decided Plan
import_plan words w =
    moves_file words.moves w.files >>= λ moves. import_added words moves w.rows
