-- The command `moves`: whether each row of a move file is a move of a matrix.
use Rattle.std.specs.FinMap.{get}
use Rattle.std.specs.Fmt.{decimal}
use Rattle.std.specs.Prelude.{Err, List, Ok, [], codes, ℕ, ◌++◌, ◌∷◌}
use Rattle.mb_desk.specs.Decision.{Decided}
use Rattle.mb_desk.specs.Inputs.{accepted, body_of}
use Rattle.mb_desk.specs.Plans.{answers}
use Rattle.mb_desk.specs.declared.plans.Plan.{Plan}
use Rattle.mb_desk.specs.declared.refusals.Refusal.TheVariants.{NotAMove, WidthDiffers}
use Rattle.mb_desk.specs.declared.requests.MovesWords.{MovesWords}
use Rattle.mb_moves.specs.GridText.{matrix_of}
use Rattle.mb_moves.specs.Testing.{tested_of, tested_text}
use Rattle.mb_moves.specs.declared.testing.Tested.{Tested}
use Rattle.mb_moves.specs.declared.testing.Tested.TheVariants as tests
use Rattle.mb_moves.specs.declared.testing.Tested.TheVariants.{Moves}
use Rattle.mb_outside.specs.Files.{Held}
use Rattle.mb_tables.specs.Answers.{◌>>=◌}
use Rattle.mb_tables.specs.Rows.{Rows}

-- the number of the moves, or the refusal of the widths or of a row; the matrix has this width
abbrev pub counted : ℕ → Tested → Decided ℕ
counted width (Moves count) = Ok count
counted width (tests.WidthDiffers moves) = Err (WidthDiffers width moves)
counted width (tests.NotAMove row) = Err (NotAMove row)

-- the widths are compared first, and then each row is tested
abbrev pub judged : Rows → Rows → Decided ℕ
judged matrix moves = counted matrix.width (tested_of matrix moves)

-- the same of the text of a file of this number
abbrev pub judged_text : ℕ → Rows → List ℕ → Decided ℕ
judged_text file matrix text = accepted file (tested_text matrix text) >>= counted matrix.width

-- how many moves there are: the files are read in order, then their texts in order, then the rows
-- are judged
abbrev pub moves_count : MovesWords → Held → Decided ℕ
moves_count words held = do
  matrix_text ← body_of 1 (get held words.matrix)
  moves_text ← body_of 2 (get held words.moves)
  matrix ← accepted 1 (matrix_of matrix_text)
  judged_text 2 matrix moves_text

-- the printed line
abbrev pub moves_line : ℕ → List ℕ
moves_line count = codes "moves " ++ (decimal count ++ 10 ∷ [])

-- the plan of the command: the line is printed
abbrev pub moves_plan : MovesWords → Held → Decided Plan
moves_plan words held = moves_count words held >>= λ count. Ok (answers (moves_line count))
