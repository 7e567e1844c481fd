-- What is known where a decision went through to its answer.
use Rattle.std.proofs.Common.{All, Bool, Err, List, None, Ok, Option, Result, Some, ap, cond, eqb, false, length, nat_lt, refl, sym, true, ℕ, ℤ, ◌∙◌, ◌≡◌}
use Rattle.std.proofs.lemmas.Bool.{eqb-true}
use Rattle.std.specs.FinMap.{get}
use Rattle.mb_desk.proofs.Fitting.{or_ok}
use Rattle.mb_desk.specs.Decision.{Decided}
use Rattle.mb_desk.specs.Headline.{AnswersMoves, ReadsMatrix, ReadsMoves}
use Rattle.mb_desk.specs.Inputs.{accepted, body_of, text_refusal}
use Rattle.mb_desk.specs.MovesCommand.{counted, judged, judged_text, moves_count, moves_line}
use Rattle.mb_desk.specs.declared.refusals.Refusal.{Refusal}
use Rattle.mb_desk.specs.declared.refusals.Refusal.TheVariants.{TooLong}
use Rattle.mb_desk.specs.declared.requests.MovesWords.{MovesWords}
use Rattle.mb_moves.proofs.Verdicts.{first_wrong-none}
use Rattle.mb_moves.specs.GridText.{matrix_of, moves_of}
use Rattle.mb_moves.specs.Testing.{first_wrong, tested_of, tested_text, verdict}
use Rattle.mb_moves.specs.declared.fault.GridFault.{GridFault}
use Rattle.mb_moves.specs.declared.testing.Tested.{Tested}
use Rattle.mb_moves.specs.declared.testing.Tested.TheVariants as tests
use Rattle.mb_moves.specs.declared.testing.Tested.TheVariants.{Moves}
use Rattle.mb_outside.specs.Files.{Held, longest_file}
use Rattle.mb_tables.specs.Answers.{◌>>=◌}
use Rattle.mb_tables.specs.Rows.{IsMoveOf, Rows}
use Rattle.mb_text.proofs.RecordSteps.{stepped}

-- a test that did not refuse
pub guard_ok : {A : Type 0} (test : Bool) (refusal : Refusal) (x : Decided A) (y : A) →
    cond test x (Err refusal) ≡ Ok y → (test ≡ true) × (x ≡ Ok y)
guard_ok true refusal x y e = (refl, e)
guard_ok false refusal x y e = absurd (cc)

-- a body that is had was there
pub body_there : (file : ℕ) (held : Option (List ℕ)) (text : List ℕ) →
    body_of file held ≡ Ok text → held ≡ Some text
body_there file None text e = absurd (cc)
body_there file (Some body) text e = by (nat_lt longest_file (length body)) e
  where
    by : (long : Bool) → cond long (Err (TooLong file)) (Ok body) ≡ Ok text →
        Some body ≡ Some text
    by true e = absurd (cc)
    by false e = cc

-- a text that is accepted says the value
pub says : {A : Type 0} (file : ℕ) (text : Result A GridFault) (x : A) →
    accepted file text ≡ Ok x → text ≡ Ok x
says file text x e = or_ok (text_refusal file) text x e

-- a file whose text was accepted as a matrix is read as one
pub reads_matrix : (file : ℕ) (held : Held) (name text : List ℕ) (matrix : Rows) →
    body_of file (get held name) ≡ Ok text → accepted file (matrix_of text) ≡ Ok matrix →
    ReadsMatrix held name matrix
reads_matrix file held name text matrix there read = record {
  text = text;
  there = body_there file (get held name) text there;
  read = says file (matrix_of text) matrix read;
}

-- and one whose text was accepted as moves, as moves
pub reads_moves : (file : ℕ) (held : Held) (name text : List ℕ) (moves : Rows) →
    body_of file (get held name) ≡ Ok text → accepted file (moves_of text) ≡ Ok moves →
    ReadsMoves held name moves
reads_moves file held name text moves there read = record {
  text = text;
  there = body_there file (get held name) text there;
  read = says file (moves_of text) moves read;
}

-- what is known of moves that were counted
pub record AreJudged (matrix moves : Rows) (count : ℕ) : Type 0 where
  pub width : moves.width ≡ matrix.width
  pub each : All (IsMoveOf matrix.rows) moves.rows
  pub number : count ≡ length moves.rows

-- a count comes only where the rows are counted
counted_ok : (width : ℕ) (tested : Tested) (count : ℕ) → counted width tested ≡ Ok count →
    tested ≡ Moves count
counted_ok width (Moves n) count e = cc
counted_ok width (tests.WidthDiffers moves) count e = absurd (cc)
counted_ok width (tests.NotAMove row) count e = absurd (cc)

-- rows are counted only where none is wrong
verdict_ok : (rows : List (List ℤ)) (found : Option ℕ) (count : ℕ) →
    verdict rows found ≡ Moves count → (found ≡ None) × (count ≡ length rows)
verdict_ok rows None count e = (refl, cc)
verdict_ok rows (Some row) count e = absurd (cc)

-- and where the widths are equal
width_ok : (same : Bool) (tested : Tested) (width count : ℕ) →
    cond same tested (tests.WidthDiffers width) ≡ Moves count →
    (same ≡ true) × (tested ≡ Moves count)
width_ok true tested width count e = (refl, e)
width_ok false tested width count e = absurd (cc)

-- what is known of moves that were counted
pub judged_ok : (matrix moves : Rows) (count : ℕ) → judged matrix moves ≡ Ok count →
    AreJudged matrix moves count
judged_ok matrix moves count e =
    let tested = counted_ok matrix.width (tested_of matrix moves) count e in
    let g =
    width_ok (eqb matrix.width moves.width)
    (verdict moves.rows (first_wrong matrix.rows 1 moves.rows)) moves.width count tested in
    let v = verdict_ok moves.rows (first_wrong matrix.rows 1 moves.rows) count g.1 in
    record {
      width = sym (eqb-true _ _ g.0);
      each = first_wrong-none matrix.rows 1 moves.rows v.0;
      number = v.1;
    }

-- the same of a text
record IsJudged (matrix : Rows) (text : List ℕ) (count : ℕ) : Type 0 where
  moves : Rows
  read : moves_of text ≡ Ok moves
  judged : AreJudged matrix moves count

judged_text_ok : (file : ℕ) (matrix : Rows) (text : List ℕ) (count : ℕ) →
    judged_text file matrix text ≡ Ok count → IsJudged matrix text count
judged_text_ok file matrix text count e =
    let a = stepped (accepted file (tested_text matrix text)) (counted matrix.width) count e in
    let b =
    stepped (moves_of text) (λ moves. Ok (tested_of matrix moves)) a.0
    (says file (tested_text matrix text) a.0 a.1) in
    let tested : tested_of matrix b.0 ≡ a.0 = cc in
    record {
      moves = b.0;
      read = b.1;
      judged = judged_ok matrix b.0 count (ap (counted matrix.width) tested ∙ a.2);
    }

-- where `moves` counts, its answer has its meaning
pub counts_moves : (held : Held) (words : MovesWords) (count : ℕ) →
    moves_count words held ≡ Ok count → AnswersMoves held words (moves_line count)
counts_moves held words count e =
    let read_second = λ (matrix_text : List ℕ). body_of 2 (get held words.moves) >>= λ moves_text.
    accepted 1 (matrix_of matrix_text) >>= λ matrix. judged_text 2 matrix moves_text in
    let a = stepped (body_of 1 (get held words.matrix)) read_second count e in
    let read_texts = λ (moves_text : List ℕ). accepted 1 (matrix_of a.0) >>= λ matrix.
    judged_text 2 matrix moves_text in
    let b = stepped (body_of 2 (get held words.moves)) read_texts count a.2 in
    let c =
    stepped (accepted 1 (matrix_of a.0)) (λ matrix. judged_text 2 matrix b.0) count b.2 in
    let j = judged_text_ok 2 c.0 b.0 count c.2 in
    record {
      matrix = c.0;
      moves = j.moves;
      matrix_read = reads_matrix 1 held words.matrix a.0 c.0 a.1 c.1;
      moves_read = record {
        text = b.0;
        there = body_there 2 (get held words.moves) b.0 b.1;
        read = j.read;
      };
      width = j.judged.width;
      each = j.judged.each;
      printed = ap moves_line {y = length j.moves.rows} j.judged.number;
    }
