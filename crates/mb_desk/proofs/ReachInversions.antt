-- What is known where `reach` found its rings.
use Rattle.std.proofs.Common.{All, Bool, Err, List, Ok, Result, [], ap, arith, cond, eqb, false, length, map, negsuc, pos, refl, subst, sum, sym, true, unsigned_abs, ℕ, ℤ, ◌&&◌, ◌+◌, ◌∙◌, ◌∷◌, ◌≡◌, ◌≤◌, ◌↔◌}
use Rattle.std.proofs.lemmas.Bool.{and_parts, eqb-true, leb-true}
use Rattle.std.proofs.lemmas.Bool.Decides.{nat_tests}
use Rattle.std.proofs.lemmas.List.{length-map}
use Rattle.std.specs.FinMap.{get}
use Rattle.std.specs.List.{list_all}
use Rattle.std.specs.Prelude.{int_le, nat_le, nat_lt}
use Rattle.mb_desk.proofs.Fitting.{or_ok}
use Rattle.mb_desk.proofs.Inversions.{AreJudged, judged_ok, reads_matrix, reads_moves, says}
use Rattle.mb_desk.proofs.WalkStarts.{IsMade, is_made, made_moves}
use Rattle.mb_desk.specs.Decision.{or_refusal}
use Rattle.mb_desk.specs.ExactTest.{HasDistances}
use Rattle.mb_desk.specs.Headline.{AnswersReach, ReadsMoves, ReadsTable}
use Rattle.mb_desk.specs.Inputs.{accepted, body_of}
use Rattle.mb_desk.specs.MovesCommand.{judged}
use Rattle.mb_desk.specs.ReachCommand.{designed, reach_rings, table_of, texts_rings, walk_refusal, walked}
use Rattle.mb_desk.specs.declared.refusals.Refusal.TheVariants.{NotATable}
use Rattle.mb_desk.specs.declared.requests.ReachWords.{ReachWords}
use Rattle.mb_matrix.proofs.RowsAndColumns.{length-columns}
use Rattle.mb_matrix.specs.Ascending.{occurrences}
use Rattle.mb_matrix.specs.Matrix.{Design, IsDesign, IsMove, design_of, fiber_of}
use Rattle.mb_moves.proofs.AcceptedTexts.{array_taken}
use Rattle.mb_moves.specs.GridText.{matrix_of, moves_of}
use Rattle.mb_moves.specs.TableText.{are_counts, only_row, table_in}
use Rattle.mb_moves.specs.declared.table_text.NoTable.TheVariants as tables
use Rattle.mb_outside.specs.Files.{Held}
use Rattle.mb_reports.specs.RingTable.{ring_table_of}
use Rattle.mb_rings.proofs.DistinctTables.{occurrences-distinct}
use Rattle.mb_rings.proofs.FiberSteps.{fiber-ascends, fiber-closed, fiber-start}
use Rattle.mb_rings.proofs.Reaching.{reaches_joined}
use Rattle.mb_rings.proofs.RingDistances.{rings-distance}
use Rattle.mb_rings.proofs.RingEnds.{reached-distinct}
use Rattle.mb_rings.specs.Ring.{Ring, rings_of, tables_of}
use Rattle.mb_rings.specs.Walk.{walk_of, within_limit}
use Rattle.mb_rings.specs.declared.fault.WalkFault.{WalkFault}
use Rattle.mb_rings.specs.declared.fault.WalkFault.TheVariants.{TooLarge}
use Rattle.mb_tables.specs.Answers.{◌>>=◌}
use Rattle.mb_tables.specs.Chain.{Joined}
use Rattle.mb_tables.specs.Limits.{largest_total, most_cells, most_moves}
use Rattle.mb_tables.specs.Lists.{In}
use Rattle.mb_tables.specs.Rows.{Rows}
use Rattle.mb_text.proofs.RecordSteps.{stepped}
use Rattle.mb_text.specs.Tokens.{tokens}

-- entries none of which is below 0 are their numbers without signs
counts_again : (entries : List ℤ) → list_all (λ z. int_le (pos 0) z) entries ≡ true →
    map pos (map unsigned_abs entries) ≡ entries
counts_again [] e = refl
counts_again (pos n ∷ entries) e =
    let parts = and_parts (int_le (pos 0) (pos n)) (list_all (λ z. int_le (pos 0) z) entries) e in
    ap (λ zs. pos n ∷ zs) (counts_again entries parts.1)
counts_again (negsuc n ∷ entries) e = absurd (cc)

-- a test that did not refuse
guard_ok : {A F : Type 0} (test : Bool) (fault : F) (x : A) (y : A) →
    ◌≡◌ {A = Result A F} (cond test (Ok x) (Err fault)) (Ok y) → (test ≡ true) × (x ≡ y)
guard_ok true fault x y e = (refl, cc)
guard_ok false fault x y e = absurd (cc)

-- a row that is a table
row_ok : (cells width : ℕ) (entries : List ℤ) (table : List ℕ) →
    only_row cells width (entries ∷ []) ≡ Ok table →
    (width ≡ cells) × (entries ≡ map pos table) × (sum table ≤ largest_total)
row_ok cells width entries table e =
    let g =
    guard_ok (eqb width cells && are_counts entries) tables.NotATable (map unsigned_abs entries)
    table e in
    let parts = and_parts (eqb width cells) (are_counts entries) g.0 in
    let counts =
    and_parts (list_all (λ z. int_le (pos 0) z) entries)
    (nat_le (sum (map unsigned_abs entries)) largest_total) parts.1 in (
      eqb-true _ _ parts.0,
      subst (λ t. entries ≡ map pos t) g.1 (sym (counts_again entries counts.0)),
      subst (λ t. sum t ≤ largest_total) g.1 (leb-true _ _ counts.1),
    )

-- a move file that is a table: one row, of so many cells, of counts that add up to at most
-- 1,000,000
pub record IsTableFile (cells : ℕ) (file : Rows) (table : List ℕ) : Type 0 where
  pub width : file.width ≡ cells
  pub row : file.rows ≡ map pos table ∷ []
  pub total : sum table ≤ largest_total

-- a table file that is accepted is one
table_ok : (cells width : ℕ) (rows : List (List ℤ)) (table : List ℕ) →
    only_row cells width rows ≡ Ok table →
    IsTableFile cells (record { width = width; rows = rows }) table
table_ok cells width [] table e = absurd (cc)
table_ok cells width (entries ∷ []) table e =
    let r = row_ok cells width entries table e in
    record { width = r.0; row = ap (λ z. z ∷ []) r.1; total = r.2 }
table_ok cells width (entries ∷ second ∷ rows) table e = absurd (cc)

-- rings within the limit
limit_ok : (limit : ℕ) (rings found : List Ring) → within_limit limit rings ≡ Ok found →
    (rings ≡ found) × (length (tables_of rings) ≤ limit)
limit_ok limit rings found e = by (nat_lt limit (length (tables_of rings))) refl e
  where
    by : (many : Bool) → nat_lt limit (length (tables_of rings)) ≡ many →
        ◌≡◌ {A = Result (List Ring) WalkFault} (cond many (Err (TooLarge (limit + 1))) (Ok rings))
        (Ok found) →
        (rings ≡ found) × (length (tables_of rings) ≤ limit)
    by true test e = absurd (cc)
    by false test e = (cc, grind (arith, nat_tests))

-- what is known of a walk
pub record IsWalked (limit : ℕ) (matrix moves file : Rows) (rings : List Ring) : Type 0 where
  pub design : Design
  pub table : List ℕ
  pub count : ℕ
  pub made : designed matrix ≡ Ok design
  pub judged : AreJudged matrix moves count
  pub start : IsTableFile matrix.width file table
  pub few : length (tables_of rings) ≤ limit
  pub found : rings_of design moves.rows table ≡ rings

walked_ok : (limit : ℕ) (matrix moves file : Rows) (rings : List Ring) →
    walked limit matrix moves file ≡ Ok rings → IsWalked limit matrix moves file rings
walked_ok limit matrix moves file rings e =
    let after_design = λ (design : Design). judged matrix moves >>= λ count.
    table_of matrix.width file >>= λ start.
    or_refusal walk_refusal (walk_of limit design moves.rows start) in
    let a = stepped (designed matrix) after_design rings e in
    let after_moves = λ (count : ℕ). table_of matrix.width file >>= λ start.
    or_refusal walk_refusal (walk_of limit a.0 moves.rows start) in
    let b = stepped (judged matrix moves) after_moves rings a.2 in
    let c =
    stepped (table_of matrix.width file)
    (λ start. or_refusal walk_refusal (walk_of limit a.0 moves.rows start)) rings b.2 in
    let walk = or_ok walk_refusal (walk_of limit a.0 moves.rows c.0) rings c.2 in
    let d = limit_ok limit (rings_of a.0 moves.rows c.0) rings walk in
    let table = or_ok (λ _. NotATable 3) (table_in matrix.width file) c.0 c.1 in
    record {
      design = a.0;
      table = c.0;
      count = b.0;
      made = a.1;
      judged = judged_ok matrix moves b.0 b.1;
      start = table_ok matrix.width file.width file.rows c.0 table;
      few = subst (λ r. length (tables_of r) ≤ limit) d.0 d.1;
      found = d.0;
    }

-- a table has as many cells as its file
table_cells : (cells : ℕ) (file : Rows) (table : List ℕ) → IsTableFile cells file table →
    All (λ row. length row ≡ file.width) file.rows → length table ≡ cells
table_cells cells file table is wide =
    let row : length (map pos table) ≡ file.width =
    subst (λ (rows : List (List ℤ)). All (λ move. length move ≡ file.width) rows) is.row wide
    0 [] (omega arith) in
    sym (length-map table pos) ∙ row ∙ is.width

-- rows by their width and their rows
rows_are : (file : Rows) (width : ℕ) (rows : List (List ℤ)) → file.width ≡ width →
    file.rows ≡ rows → file ≡ record { width = width; rows = rows }
rows_are file width rows same_width same_rows =
    ap (λ w. record { width = w; rows = file.rows }) same_width
    ∙ ap (λ r. record { width = width; rows = r }) same_rows

-- a table file is read as its table
reads_table : (held : Held) (name : List ℕ) (cells : ℕ) (file : Rows) (table : List ℕ) →
    ReadsMoves held name file → IsTableFile cells file table → ReadsTable held name cells table
reads_table held name cells file table reads is = record {
  only = subst (λ (f : Rows). ReadsMoves held name f)
      (rows_are file cells (map pos table ∷ []) is.width is.row) reads;
  total = is.total;
}

-- what is known of texts that gave rings
pub record AreWalked (limit : ℕ) (first second third : List ℕ) (rings : List Ring) : Type 0 where
  pub matrix : Rows
  pub moves : Rows
  pub file : Rows
  pub matrix_read : accepted 1 (matrix_of first) ≡ Ok matrix
  pub moves_read : accepted 2 (moves_of second) ≡ Ok moves
  pub file_read : accepted 3 (moves_of third) ≡ Ok file
  pub walk : IsWalked limit matrix moves file rings

texts_ok : (limit : ℕ) (first second third : List ℕ) (rings : List Ring) →
    texts_rings limit first second third ≡ Ok rings → AreWalked limit first second third rings
texts_ok limit first second third rings e =
    let after_matrix = λ (matrix : Rows). accepted 2 (moves_of second) >>= λ moves.
    accepted 3 (moves_of third) >>= λ file. walked limit matrix moves file in
    let a = stepped (accepted 1 (matrix_of first)) after_matrix rings e in
    let after_moves = λ (moves : Rows). accepted 3 (moves_of third) >>= λ file.
    walked limit a.0 moves file in
    let b = stepped (accepted 2 (moves_of second)) after_moves rings a.2 in
    let c = stepped (accepted 3 (moves_of third)) (λ file. walked limit a.0 b.0 file) rings b.2 in
    record {
      matrix = a.0;
      moves = b.0;
      file = c.0;
      matrix_read = a.1;
      moves_read = b.1;
      file_read = c.1;
      walk = walked_ok limit a.0 b.0 c.0 rings c.2;
    }

-- what is known of the walk from a table, by the moves of a matrix
record IsReach (matrix moves : Rows) (table : List ℕ) (rings : List Ring) : Type 0 where
  design : IsDesign (design_of matrix)
  distance : HasDistances moves.rows table rings
  joined : (v : List ℕ) → In v (tables_of rings) ↔ Joined moves.rows table v
  once : (v : List ℕ) → In v (tables_of rings) → occurrences v (tables_of rings) ≡ 1

-- the rings of a design matrix, its moves and a table
reach_ok : (matrix moves : Rows) (table : List ℕ) (rings : List Ring) →
    IsDesign (design_of matrix) → All (IsMove (design_of matrix)) moves.rows →
    length table ≡ length (design_of matrix).columns →
    rings_of (design_of matrix) moves.rows table ≡ rings → IsReach matrix moves table rings
reach_ok matrix moves table rings sound each long found =
    let design = design_of matrix in
    record {
      design = sound;
      distance = subst (λ rings. HasDistances moves.rows table rings) found
          (λ k ring at v.
          rings-distance (fiber_of design table) moves.rows table
          (fiber-ascends design sound table) (fiber-start design sound table long)
          (fiber-closed design sound table moves.rows each) k ring at v);
      joined = subst
          (λ rings. (v : List ℕ) → In v (tables_of rings) ↔ Joined moves.rows table v) found
          (reaches_joined design sound moves.rows each table long);
      once = subst
          (λ rings. (v : List ℕ) → In v (tables_of rings) → occurrences v (tables_of rings) ≡ 1)
          found
          (λ v. occurrences-distinct v (tables_of (rings_of design moves.rows table))
          (reached-distinct (fiber_of design table) moves.rows table
          (fiber-ascends design sound table) (fiber-start design sound table long)));
    }

-- the same of texts
texts_reach : (limit : ℕ) (first second third : List ℕ) (rings : List Ring)
    (w : AreWalked limit first second third rings) → IsReach w.matrix w.moves w.walk.table rings
texts_reach limit first second third rings w =
    let matrix =
    (array_taken 1 most_cells (tokens first) w.matrix
    (says 1 (matrix_of first) w.matrix w.matrix_read)).0 in
    let file =
    (array_taken 0 most_moves (tokens third) w.file
    (says 3 (moves_of third) w.file w.file_read)).0 in
    let made = is_made w.matrix w.walk.design matrix.each w.walk.made in
    let design = design_of w.matrix in
    let own : IsMade w.matrix design =
    record { same = refl; design = made.design; entries = made.entries } in
    reach_ok w.matrix w.moves w.walk.table rings made.design
    (made_moves w.matrix design matrix.each own w.moves.rows w.walk.judged.each)
    (table_cells w.matrix.width w.file w.walk.table w.walk.start file.each
    ∙ sym (length-columns w.matrix))
    (subst (λ (m : Design). rings_of m w.moves.rows w.walk.table ≡ rings) made.same w.walk.found)

-- where `reach` finds rings, its answer has its meaning
pub finds_rings : (held : Held) (words : ReachWords) (rings : List Ring) →
    reach_rings words held ≡ Ok rings → AnswersReach held words (ring_table_of rings)
finds_rings held words rings e =
    let after_first = λ (matrix_text : List ℕ). body_of 2 (get held words.moves) >>= λ moves_text.
    body_of 3 (get held words.table) >>= λ table_text.
    texts_rings words.limit matrix_text moves_text table_text in
    let a = stepped (body_of 1 (get held words.matrix)) after_first rings e in
    let after_second = λ (moves_text : List ℕ). body_of 3 (get held words.table) >>= λ table_text.
    texts_rings words.limit a.0 moves_text table_text in
    let b = stepped (body_of 2 (get held words.moves)) after_second rings a.2 in
    let c =
    stepped (body_of 3 (get held words.table))
    (λ table_text. texts_rings words.limit a.0 b.0 table_text) rings b.2 in
    let w = texts_ok words.limit a.0 b.0 c.0 rings c.2 in
    let is = texts_reach words.limit a.0 b.0 c.0 rings w in
    record {
      matrix = w.matrix;
      moves = w.moves;
      table = w.walk.table;
      rings = rings;
      matrix_read = reads_matrix 1 held words.matrix a.0 w.matrix a.1 w.matrix_read;
      moves_read = reads_moves 2 held words.moves b.0 w.moves b.1 w.moves_read;
      table_read = reads_table held words.table w.matrix.width w.file w.walk.table
          (reads_moves 3 held words.table c.0 w.file c.1 w.file_read) w.walk.start;
      design = is.design;
      width = w.walk.judged.width;
      each = w.walk.judged.each;
      distance = is.distance;
      joined = is.joined;
      once = is.once;
      few = w.walk.few;
      printed = refl;
    }
