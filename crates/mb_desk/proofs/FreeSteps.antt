-- Steps that never refuse for a record that is none, or for a line of a certificate.
use Rattle.std.proofs.Common.{Bool, Err, List, None, Ok, Option, Result, Some, [], cond, false, length, nat_eq, nat_lt, refl, subst, suc, true, ℕ, ℤ, ◌+◌, ◌^◌, ◌||◌, ◌∷◌, ◌≡◌, ◌≢◌}
use Rattle.std.proofs.lemmas.Bool.{or_parts}
use Rattle.std.specs.FinMap.{get}
use Rattle.std.specs.Option.{ok_or}
use Rattle.std.specs.Str.{bytes_eq}
use Rattle.mb_certificate.specs.Certificate.{Certificate}
use Rattle.mb_certificate.specs.CertificateText.{certificate_of}
use Rattle.mb_certificate.specs.FirstFault.{first_fault, move_fault}
use Rattle.mb_certificate.specs.Valid.{free_rules}
use Rattle.mb_certificate.specs.declared.line_fault.Fault.{Fault}
use Rattle.mb_certificate.specs.declared.line_fault.Reason.{Reason}
use Rattle.mb_completion.specs.Outcome.{outcome_of}
use Rattle.mb_completion.specs.Run.{Finished, Outcome, TooHeavy, Unfinished}
use Rattle.mb_data.specs.CrossTable.{CrossTable}
use Rattle.mb_data.specs.DatasetText.{dataset_of}
use Rattle.mb_data.specs.declared.fault.DataFault.{DataFault}
use Rattle.mb_data.specs.declared.fault.DataFault.TheVariants as data_faults
use Rattle.mb_desk.specs.CheckCommand as checks
use Rattle.mb_desk.specs.CheckCommand.{certified, checked, judged, judged_by}
use Rattle.mb_desk.specs.Completing.{completed, completion_of}
use Rattle.mb_desk.specs.DatasetCommand.{data_refusal, dataset_file, dataset_text}
use Rattle.mb_desk.specs.Decision.{Decided, or_refusal}
use Rattle.mb_desk.specs.ExactTest.{narrow, small_enough, tested}
use Rattle.mb_desk.specs.GenerateCommand.{finished, generated, numbers_refusal, seed_table, square_matrix, square_measure, square_outcome, tested_square}
use Rattle.mb_desk.specs.ImportCommand.{all_moves, beside_of, moved_on, moves_file, of_one_width, path_by, path_of, paths_of, too_large}
use Rattle.mb_desk.specs.Inputs.{accepted, body_of, text_refusal}
use Rattle.mb_desk.specs.LeastPaths.{least_path}
use Rattle.mb_desk.specs.ModelCommand.{kind_refusal, measure_refusal, model_text, model_texts, second_text}
use Rattle.mb_desk.specs.MovesCommand as moves
use Rattle.mb_desk.specs.ReachCommand.{designed, matrix_refusal, reach_rings, table_of, texts_rings, walk_refusal, walked}
use Rattle.mb_desk.specs.Recorded.{added_to, change_refusal, kept_plan}
use Rattle.mb_desk.specs.declared.exact_test.NumbersFault.TheVariants as number_faults
use Rattle.mb_desk.specs.declared.refusals.Refusal.{Refusal}
use Rattle.mb_desk.specs.declared.refusals.Refusal.TheVariants as refusals
use Rattle.mb_desk.specs.declared.requests.ModelWords.{ModelWords}
use Rattle.mb_desk.specs.declared.requests.MovesWords.{MovesWords}
use Rattle.mb_desk.specs.declared.requests.ReachWords.{ReachWords}
use Rattle.mb_kinds.specs.Kinds.{model_of}
use Rattle.mb_kinds.specs.declared.kind_fault.KindFault.{KindFault}
use Rattle.mb_kinds.specs.declared.kind_fault.KindFault.TheVariants as kind_faults
use Rattle.mb_matrix.specs.Faults as matrices
use Rattle.mb_matrix.specs.Matrix.{Design, fiber_of}
use Rattle.mb_matrix.specs.Measure.{Weighting}
use Rattle.mb_matrix.specs.declared.fault.MatrixFault.{MatrixFault}
use Rattle.mb_matrix.specs.declared.fault.MatrixFault.TheVariants as matrix_faults
use Rattle.mb_matrix.specs.declared.measure_fault.MeasureFault.{MeasureFault}
use Rattle.mb_matrix.specs.declared.measure_fault.MeasureFault.TheVariants as measure_faults
use Rattle.mb_moves.specs.GridText.{matrix_of, moves_of}
use Rattle.mb_moves.specs.TableText.{table_in}
use Rattle.mb_moves.specs.Testing.{tested_of, tested_text}
use Rattle.mb_moves.specs.declared.fault.GridFault.{GridFault}
use Rattle.mb_moves.specs.declared.fault.GridFault.TheVariants as grid_faults
use Rattle.mb_moves.specs.declared.testing.Tested.{Tested}
use Rattle.mb_moves.specs.declared.testing.Tested.TheVariants as tests
use Rattle.mb_order.specs.declared.order.Order.{Order}
use Rattle.mb_outside.specs.Files.{Held, longest_file}
use Rattle.mb_outside.specs.Rows as kept_rows
use Rattle.mb_paths.specs.Beside.{left_table, right_table, with_moves}
use Rattle.mb_paths.specs.Between.{ball}
use Rattle.mb_registry.specs.Adding.{added_of, beside_kept, refers}
use Rattle.mb_registry.specs.Kinds.{key_of}
use Rattle.mb_registry.specs.Looking.{kept}
use Rattle.mb_registry.specs.declared.adding.Added.TheVariants.{Unchanged}
use Rattle.mb_registry.specs.declared.fault.RegistryFault.TheVariants as faults
use Rattle.mb_registry.specs.declared.kinds.Kind.{Kind}
use Rattle.mb_rings.specs.Ring.{reached, rings_of}
use Rattle.mb_rings.specs.Walk.{most_tables, walk_of}
use Rattle.mb_rings.specs.declared.fault.WalkFault.{WalkFault}
use Rattle.mb_rings.specs.declared.fault.WalkFault.TheVariants as walks
use Rattle.mb_tables.specs.Answers.{◌>>=◌}
use Rattle.mb_tables.specs.Rows.{Rows}
use Rattle.mb_weights.specs.PValue.{exact_p_value}

-- ---- faults that are never answered

-- whether a refusal is for a record that is none
abbrev pub for_record : Refusal → Bool
for_record (refusals.BadRecord kind name) = true
for_record _ = false

-- whether one is for a line of a certificate
abbrev pub for_line : Refusal → Bool
for_line (refusals.Certificate line reason) = true
for_line _ = false

-- whether one is for what is kept: such a record, or such a line
abbrev pub for_kept : Refusal → Bool
for_kept refusal = for_record refusal || for_line refusal

-- no fault of these is answered
abbrev pub Never : {A F : Type 0} → (F → Bool) → Result A F → Type 0
Never bad (Ok x) = Unit {0}
Never bad (Err fault) = bad fault ≡ false

-- nor by a step and those after it
pub never_then : {A B F : Type 0} (bad : F → Bool) (step : Result A F) (next : A → Result B F) →
    Never bad step → ((x : A) → step ≡ Ok x → Never bad (next x)) → Never bad (step >>= next)
never_then bad (Ok x) next first later = later x refl
never_then bad (Err fault) next first later = first

-- nor by a step of whose value another is made
pub never_made : {A B F : Type 0} (bad : F → Bool) (step : Result A F) (make : A → B) →
    Never bad step → Never bad (step >>= λ x. Ok (make x))
never_made bad (Ok x) make never = tt
never_made bad (Err fault) make never = never

-- nor by a step whose faults are refusals
pub never_or : {A F : Type 0} (bad : Refusal → Bool) (refusal : F → Refusal) (says : Result A F) →
    Never (λ f. bad (refusal f)) says → Never bad (or_refusal refusal says)
never_or bad refusal (Ok x) never = tt
never_or bad refusal (Err fault) never = never

-- nor by a step none of whose refusals is one
pub never_of : {A F : Type 0} (bad : Refusal → Bool) (refusal : F → Refusal) (says : Result A F) →
    ((f : F) → bad (refusal f) ≡ false) → Never bad (or_refusal refusal says)
never_of bad refusal (Ok x) all = tt
never_of bad refusal (Err fault) all = all fault

-- nor by a test with another refusal
pub never_if : {A F : Type 0} (bad : F → Bool) (test : Bool) (first second : Result A F) →
    Never bad first → Never bad second → Never bad (cond test first second)
never_if bad true first second one other = one
never_if bad false first second one other = other

-- what never refuses for what is kept never does for a record
pub never_record : {A : Type 0} (d : Decided A) → Never for_kept d → Never for_record d
never_record (Ok x) never = tt
never_record (Err refusal) never = (or_parts (for_record refusal) (for_line refusal) never).0

-- nor for a line
pub never_line : {A : Type 0} (d : Decided A) → Never for_kept d → Never for_line d
never_line (Ok x) never = tt
never_line (Err refusal) never = (or_parts (for_record refusal) (for_line refusal) never).1

-- what is never answered isn't answered
pub never_is : {A F : Type 0} (bad : F → Bool) (answer : Result A F) (fault : F) →
    Never bad answer → bad fault ≡ true → answer ≢ Err fault
never_is bad answer fault never is e = wrong (bad fault) (subst (Never bad) e never) is
  where
    wrong : (b : Bool) → b ≡ false → b ≡ true → ⊥
    wrong true is_false is_true = cc is_false
    wrong false is_false is_true = cc is_true

-- ---- files and their texts

-- the body of a file
pub body_free : (file : ℕ) (o : Option (List ℕ)) → Never for_kept (body_of file o)
body_free file None = refl
body_free file (Some body) =
    never_if for_kept (nat_lt longest_file (length body)) (Err (refusals.TooLong file)) (Ok body)
    refl tt

-- the refusal of a text
text_free : (file : ℕ) (fault : GridFault) → for_kept (text_refusal file fault) ≡ false
text_free file grid_faults.NoSize = refl
text_free file (grid_faults.BadNumber token) = refl
text_free file (grid_faults.TooWideNumber token) = refl
text_free file (grid_faults.TooFew found wanted) = refl
text_free file (grid_faults.TooMany wanted) = refl
text_free file grid_faults.OutOfMemory = refl

-- a text
pub accepted_free : {A : Type 0} (file : ℕ) (says : Result A GridFault) →
    Never for_kept (accepted file says)
accepted_free file says = never_of for_kept (text_refusal file) says (text_free file)

-- the refusal of a matrix
matrix_free : (fault : MatrixFault) → for_kept (matrix_refusal fault) ≡ false
matrix_free matrix_faults.TooManyCells = refl
matrix_free matrix_faults.TooManyMargins = refl
matrix_free (matrix_faults.Negative row cell) = refl
matrix_free (matrix_faults.EntryTooLarge row cell) = refl
matrix_free (matrix_faults.ZeroColumn cell) = refl
matrix_free matrix_faults.OutOfMemory = refl

-- that of a measure
measure_free : (fault : MeasureFault) → for_kept (measure_refusal fault) ≡ false
measure_free (measure_faults.BadScaleRow row) = refl
measure_free (measure_faults.ScaleNotCover cell) = refl
measure_free (measure_faults.BadBase cell) = refl
measure_free measure_faults.OutOfMemory = refl

-- that of a model
kind_free : (fault : KindFault) → for_kept (kind_refusal fault) ≡ false
kind_free kind_faults.Toml = refl
kind_free kind_faults.UnknownKind = refl
kind_free (kind_faults.MissingKey key) = refl
kind_free kind_faults.UnknownFactor = refl
kind_free kind_faults.EmptyGenerators = refl
kind_free kind_faults.NotTwoFactors = refl
kind_free kind_faults.NotBinary = refl
kind_free (kind_faults.MatrixText fault) = text_free 2 fault
kind_free (kind_faults.CellCount matrix cells) = refl
kind_free (kind_faults.Matrix fault) = matrix_free fault
kind_free (kind_faults.Measure fault) = measure_free fault
kind_free kind_faults.OutOfMemory = refl

-- that of a dataset
data_free : (fault : DataFault) → for_kept (data_refusal fault) ≡ false
data_free (data_faults.Csv row) = refl
data_free data_faults.NoCountColumn = refl
data_free data_faults.NoFactor = refl
data_free (data_faults.BadCount row) = refl
data_free (data_faults.Repeated row) = refl
data_free data_faults.TooManyCells = refl
data_free data_faults.TotalTooLarge = refl
data_free data_faults.NoCell = refl
data_free data_faults.OutOfMemory = refl

-- that of a walk
walk_free : (fault : WalkFault) → for_kept (walk_refusal fault) ≡ false
walk_free (walks.TooLarge seen) = refl
walk_free walks.OutOfMemory = refl

-- the dataset of a file
pub dataset_free : (file : List ℕ) (held : Held) → Never for_kept (dataset_file file held)
dataset_free file held =
    never_then for_kept (body_of 1 (get held file)) dataset_text (body_free 1 (get held file))
    (λ text e. never_of for_kept data_refusal (dataset_of text) data_free)

-- the matrix file of a model, if one is given
second_free : (file : Option (List ℕ)) (held : Held) → Never for_kept (second_text file held)
second_free None held = tt
second_free (Some file) held =
    never_then for_kept (body_of 2 (get held file)) (λ text. Ok (Some text))
    (body_free 2 (get held file)) (λ text e. tt)

-- both files of a model
pub texts_free : (words : ModelWords) (held : Held) → Never for_kept (model_texts words held)
texts_free words held =
    never_then for_kept (body_of 1 (get held words.file))
    (λ text. second_text words.matrix held >>= λ matrix. Ok (text, matrix))
    (body_free 1 (get held words.file))
    (λ text e.
    never_then for_kept (second_text words.matrix held) (λ matrix. Ok (text, matrix))
    (second_free words.matrix held) (λ matrix f. tt))

-- the model of both
pub model_free : (texts : List ℕ × Option (List ℕ)) (table : CrossTable) →
    Never for_kept (model_text texts table)
model_free texts table = never_of for_kept kind_refusal (model_of texts.0 texts.1 table) kind_free

-- the moves of a file
pub moves_free : (file : List ℕ) (held : Held) → Never for_kept (moves_file file held)
moves_free file held =
    never_then for_kept (body_of 1 (get held file)) (λ text. accepted 1 (moves_of text))
    (body_free 1 (get held file)) (λ text e. accepted_free 1 (moves_of text))

-- ---- moves, reach, check

-- the number of moves
counted_free : (width : ℕ) (test : Tested) → Never for_kept (moves.counted width test)
counted_free width (tests.Moves count) = tt
counted_free width (tests.WidthDiffers other) = refl
counted_free width (tests.NotAMove row) = refl

-- the number of the moves of two files
pub count_free : (words : MovesWords) (held : Held) → Never for_kept (moves.moves_count words held)
count_free words held =
    never_then for_kept (body_of 1 (get held words.matrix))
    (λ matrix_text. body_of 2 (get held words.moves) >>= λ moves_text.
    accepted 1 (matrix_of matrix_text) >>= λ matrix. moves.judged_text 2 matrix moves_text)
    (body_free 1 (get held words.matrix))
    (λ matrix_text e.
    never_then for_kept (body_of 2 (get held words.moves))
    (λ moves_text. accepted 1 (matrix_of matrix_text) >>= λ matrix.
    moves.judged_text 2 matrix moves_text)
    (body_free 2 (get held words.moves))
    (λ moves_text f.
    never_then for_kept (accepted 1 (matrix_of matrix_text))
    (λ matrix. moves.judged_text 2 matrix moves_text) (accepted_free 1 (matrix_of matrix_text))
    (λ matrix g.
    never_then for_kept (accepted 2 (tested_text matrix moves_text)) (moves.counted matrix.width)
    (accepted_free 2 (tested_text matrix moves_text)) (λ test h. counted_free matrix.width test))))

-- the rings of a table
walked_free : (limit : ℕ) (matrix moves_in file : Rows) →
    Never for_kept (walked limit matrix moves_in file)
walked_free limit matrix moves_in file =
    never_then for_kept (designed matrix)
    (λ design. moves.judged matrix moves_in >>= λ count. table_of matrix.width file >>= λ start.
    or_refusal walk_refusal (walk_of limit design moves_in.rows start))
    (never_of for_kept matrix_refusal (matrices.matrix_of matrix) matrix_free)
    (λ design e.
    never_then for_kept (moves.judged matrix moves_in)
    (λ count. table_of matrix.width file >>= λ start.
    or_refusal walk_refusal (walk_of limit design moves_in.rows start))
    (counted_free matrix.width (tested_of matrix moves_in))
    (λ count f.
    never_then for_kept (table_of matrix.width file)
    (λ start. or_refusal walk_refusal (walk_of limit design moves_in.rows start))
    (never_of for_kept (λ _. refusals.NotATable 3) (table_in matrix.width file) (λ fault. refl))
    (λ start g.
    never_of for_kept walk_refusal (walk_of limit design moves_in.rows start) walk_free)))

-- those of three texts
rings_free : (limit : ℕ) (matrix_text moves_text table_text : List ℕ) →
    Never for_kept (texts_rings limit matrix_text moves_text table_text)
rings_free limit matrix_text moves_text table_text =
    never_then for_kept (accepted 1 (matrix_of matrix_text))
    (λ matrix. accepted 2 (moves_of moves_text) >>= λ moves_in.
    accepted 3 (moves_of table_text) >>= λ file. walked limit matrix moves_in file)
    (accepted_free 1 (matrix_of matrix_text))
    (λ matrix e.
    never_then for_kept (accepted 2 (moves_of moves_text))
    (λ moves_in. accepted 3 (moves_of table_text) >>= λ file. walked limit matrix moves_in file)
    (accepted_free 2 (moves_of moves_text))
    (λ moves_in f.
    never_then for_kept (accepted 3 (moves_of table_text))
    (λ file. walked limit matrix moves_in file) (accepted_free 3 (moves_of table_text))
    (λ file g. walked_free limit matrix moves_in file)))

-- and those of three files
pub reach_free : (words : ReachWords) (held : Held) → Never for_kept (reach_rings words held)
reach_free words held =
    never_then for_kept (body_of 1 (get held words.matrix))
    (λ matrix_text. body_of 2 (get held words.moves) >>= λ moves_text.
    body_of 3 (get held words.table) >>= λ table_text.
    texts_rings words.limit matrix_text moves_text table_text)
    (body_free 1 (get held words.matrix))
    (λ matrix_text e.
    never_then for_kept (body_of 2 (get held words.moves))
    (λ moves_text. body_of 3 (get held words.table) >>= λ table_text.
    texts_rings words.limit matrix_text moves_text table_text)
    (body_free 2 (get held words.moves))
    (λ moves_text f.
    never_then for_kept (body_of 3 (get held words.table))
    (λ table_text. texts_rings words.limit matrix_text moves_text table_text)
    (body_free 3 (get held words.table))
    (λ table_text g. rings_free words.limit matrix_text moves_text table_text)))

-- a certificate that is judged: only a line of it is refused
judged_by_free : (c : Certificate) (first : Option Fault) → Never for_record (judged_by c first)
judged_by_free c None = tt
judged_by_free c (Some fault) = refl

-- the certificate of a file
pub check_free : (file : List ℕ) (held : Held) → Never for_record (checked file held)
check_free file held =
    never_then for_record (checks.found file held) judged
    (never_then for_record (body_of 1 (get held file)) (certified 1)
    (never_record (body_of 1 (get held file)) (body_free 1 (get held file)))
    (λ text e. never_of for_record (refusals.Text 1) (certificate_of text) (λ line. refl)))
    (λ c e. judged_by_free c (first_fault c))

-- ---- completions and exact tests

-- a completion
pub completed_free : (matrix : Design) (order : Order) (pairs : ℕ) →
    Never for_kept (completed matrix order pairs)
unfolding completed
completed_free matrix order pairs = by (outcome_of matrix order pairs)
  where
    by : (end : Outcome) → Never for_kept (completion_of matrix order end)
    by (Finished final looks) = tt
    by (Unfinished looks i j) = refl
    by (TooHeavy i j) = refl

-- a run that is to be finished
finished_free : (end : Outcome) → Never for_kept (finished end)
finished_free (Finished final looks) = tt
finished_free (Unfinished looks i j) = refl
finished_free (TooHeavy i j) = refl

-- the exact p-value of a table
pub tested_free : (limit : ℕ) (matrix : Design) (measure : Weighting) (observed : List ℕ) →
    Never (λ fault. for_kept (numbers_refusal fault)) (tested limit matrix measure observed)
tested_free limit matrix measure observed =
    never_then (λ fault. for_kept (numbers_refusal fault))
    (small_enough limit (fiber_of matrix observed))
    (λ few. narrow (exact_p_value matrix measure observed))
    (never_if (λ fault. for_kept (numbers_refusal fault))
    (nat_lt limit (length (fiber_of matrix observed))) (Err (number_faults.TooLarge (limit + 1)))
    (Ok tt) refl tt)
    (λ few e.
    never_if (λ fault. for_kept (numbers_refusal fault))
    (nat_lt (exact_p_value matrix measure observed).whole (2 ^ 128))
    (Ok (exact_p_value matrix measure observed)) (Err number_faults.TooWide) tt refl)

-- the exact p-value of the table of a seed
pub generated_free : (seed : ℕ) → Never for_kept (generated seed)
generated_free seed =
    never_then for_kept (finished square_outcome) (λ complete. tested_square (seed_table seed))
    (finished_free square_outcome)
    (λ complete e.
    never_or for_kept numbers_refusal
    (tested most_tables square_matrix square_measure (seed_table seed))
    (tested_free most_tables square_matrix square_measure (seed_table seed)))

-- ---- moves beside a certificate

-- moves that are to be moves of the matrix
each_free : (matrix : Design) (row : ℕ) (rows : List (List ℤ)) →
    Never for_kept (all_moves matrix row rows)
unfolding all_moves
each_free matrix row [] = tt
each_free matrix row (move ∷ rows) =
    by (move_fault matrix move) (each_free matrix (suc row) rows)
  where
    by : (reason : Option Reason) → Never for_kept (all_moves matrix (suc row) rows) →
        Never for_kept (moved_on row reason (all_moves matrix (suc row) rows))
    by None later = later
    by (Some reason) later = refl

-- the path of a rule
path_free : (limit : ℕ) (c : Certificate) (rows : List (List ℤ)) (k : ℕ) →
    Never for_kept (path_of limit c rows k)
unfolding path_of
path_free limit c rows k =
    by
    (least_path rows (length (rings_of c.matrix rows (left_table c k))) (left_table c k)
    (right_table c k))
  where
    by : (path : Option (List ℤ)) → Never for_kept (path_by limit c rows k path)
    by None =
        never_if for_kept (nat_lt limit (length (reached c.matrix rows (left_table c k))))
        (too_large limit k) (Err (refusals.NotBasis k (left_table c k) (right_table c k))) refl refl
    by (Some steps) =
        never_if for_kept
        (nat_lt limit (length (ball c.matrix rows (left_table c k) (length steps))))
        (too_large limit k) (Ok (record { rule = k; steps = steps })) refl tt

-- the paths of rules
paths_free : (limit : ℕ) (c : Certificate) (rows : List (List ℤ)) (numbers : List ℕ) →
    Never for_kept (paths_of limit c rows numbers)
unfolding paths_of
paths_free limit c rows [] = tt
paths_free limit c rows (k ∷ numbers) =
    never_then for_kept (path_of limit c rows k)
    (λ path. paths_of limit c rows numbers >>= λ paths. Ok (path ∷ paths))
    (path_free limit c rows k)
    (λ path e.
    never_then for_kept (paths_of limit c rows numbers) (λ paths. Ok (path ∷ paths))
    (paths_free limit c rows numbers) (λ paths f. tt))

-- the certificate with these moves
pub beside_free : (limit : ℕ) (c : Certificate) (moves_in : Rows) →
    Never for_kept (beside_of limit c moves_in)
beside_free limit c moves_in =
    never_then for_kept (of_one_width c.matrix moves_in)
    (λ width. all_moves c.matrix 1 moves_in.rows >>= λ each.
    paths_of limit c moves_in.rows (free_rules c.matrix.rows c.rules) >>= λ paths.
    Ok (with_moves c moves_in.rows paths))
    (never_if for_kept (nat_eq moves_in.width (length c.matrix.columns)) (Ok tt)
    (Err (refusals.WidthDiffers (length c.matrix.columns) moves_in.width)) tt refl)
    (λ width e.
    never_then for_kept (all_moves c.matrix 1 moves_in.rows)
    (λ each. paths_of limit c moves_in.rows (free_rules c.matrix.rows c.rules) >>= λ paths.
    Ok (with_moves c moves_in.rows paths))
    (each_free c.matrix 1 moves_in.rows)
    (λ each f.
    never_then for_kept (paths_of limit c moves_in.rows (free_rules c.matrix.rows c.rules))
    (λ paths. Ok (with_moves c moves_in.rows paths))
    (paths_free limit c moves_in.rows (free_rules c.matrix.rows c.rules)) (λ paths g. tt)))

-- ---- records that are kept

module _ (kind : Kind) (name : List ℕ) where
  -- a body that is looked up
  kept_free : (of : Kind) (word : List ℕ) (rows : kept_rows.Rows) →
      Never (λ fault. for_kept (change_refusal kind name fault)) (kept of word rows)
  kept_free of word rows = by (get rows (key_of of word))
    where
      by : (o : Option (List ℕ)) → Never (λ fault. for_kept (change_refusal kind name fault))
          (ok_or o (faults.Unknown of word))
      by None = refl
      by (Some body) = tt

  -- a record that is referred to
  refers_free : (reference : Option (Kind × List ℕ)) (rows : kept_rows.Rows) →
      Never (λ fault. for_kept (change_refusal kind name fault)) (refers reference rows)
  refers_free None rows = tt
  refers_free (Some reference) rows =
      never_then (λ fault. for_kept (change_refusal kind name fault))
      (kept reference.0 reference.1 rows) (λ body. Ok tt) (kept_free reference.0 reference.1 rows)
      (λ body e. tt)

  -- a body beside the one that is kept
  beside_kept_free : (body : List ℕ) (old : Option (List ℕ)) →
      Never (λ fault. for_kept (change_refusal kind name fault)) (beside_kept body old)
  beside_kept_free body None = tt
  beside_kept_free body (Some old) =
      never_if (λ fault. for_kept (change_refusal kind name fault)) (bytes_eq old body)
      (Ok Unchanged) (Err (faults.Conflict old)) tt refl

  -- a record that is kept
  pub added_free : (reference : Option (Kind × List ℕ)) (body lines : List ℕ)
      (rows : kept_rows.Rows) → Never for_kept (kept_plan kind name reference body lines rows)
  unfolding added_to
  added_free reference body lines rows =
      never_then for_kept (added_to kind name reference body rows) _
      (never_or for_kept (change_refusal kind name) (added_of kind name reference body rows)
      (never_then (λ fault. for_kept (change_refusal kind name fault)) (refers reference rows)
      (λ there. beside_kept body (get rows (key_of kind name))) (refers_free reference rows)
      (λ there e. beside_kept_free body (get rows (key_of kind name)))))
      (λ added e. tt)
