-- The text of a certificate is read as it, and what is read is the text of a certificate.
use Rattle.std.proofs.Common.{List, Ok, Result, [], ap, append-nil, arith, codes, length, refl, subst, ℕ, ℤ, ◌++◌, ◌+◌, ◌-◌, ◌^◌, ◌∙◌, ◌∷◌, ◌≡◌, ◌≤◌}
use Rattle.std.specs.Fmt.{decimal}
use Rattle.std.specs.List.{AllByRecursion, join_with_byte}
use Rattle.mb_text.proofs.RecordSteps.{step_on, stepped}
use Rattle.mb_certificate.proofs.LineLaws.{Reads, line_is, line_written, lines_at, section_is, section_written, text_left}
use Rattle.mb_certificate.proofs.LineReaders.{IsMoveLine, counted_reads, move_reads, one_word_reads, order_reads, two_words_reads, word_token}
use Rattle.mb_certificate.proofs.ListReaders.{IsRuleLine, join_reads, path_reads, rule_reads, start_reads}
use Rattle.mb_certificate.proofs.MatrixTexts.{matrix_is, matrix_written}
use Rattle.mb_certificate.proofs.NumberItems.{IsWithin}
use Rattle.mb_certificate.specs.Certificate.{IsJoin, IsPath, IsStart, Join, Path, Start}
use Rattle.mb_certificate.specs.CertificateText.{all_of, basis_in, counted, ending_in, entry, head_in, join_in, matrix_in, one_word, order_in, order_name, path_in, proof_in, rule_in, section, start_in, symbol_count, two_words}
use Rattle.mb_certificate.specs.Reading.{LinesLeft, says, text_ends}
use Rattle.mb_text.specs.RecordLines.{ends}
use Rattle.mb_certificate.specs.Written.{join_items, matrix_text, move_items, path_items, rule_items, rules_text, section_text, start_items}
use Rattle.mb_matrix.specs.Matrix.{Design, IsDesign}
use Rattle.mb_order.specs.Rewriting.{Rule}
use Rattle.mb_order.specs.declared.order.Order.{Order}
use Rattle.mb_tables.specs.Answers.{◌>>=◌}
use Rattle.mb_tables.specs.Limits.{most_moves}
use Rattle.mb_text.specs.Lines.{line}

-- the line that names the format
abbrev pub version_line : List ℕ
version_line = line (codes "certificate" ∷ codes "1" ∷ [])

-- the line of an order
abbrev pub order_line : Order → List ℕ
order_line order = line (codes "order" ∷ order_name order ∷ [])

-- the last line
abbrev pub end_line : List ℕ
end_line = line (codes "end" ∷ [])

-- the line that names the format is read
version_reads : Reads (two_words (codes "certificate") (codes "1"))
    (λ _. codes "certificate" ∷ codes "1" ∷ []) (λ _. Unit {0})
version_reads =
    two_words_reads (codes "certificate") (codes "1")
    (word_token (codes "certificate") (omega arith) refl)
    (word_token (codes "1") (omega arith) refl)

-- so is the last line
end_reads : Reads (one_word (codes "end")) (λ _. codes "end" ∷ []) (λ _. Unit {0})
end_reads = one_word_reads (codes "end") (word_token (codes "end") (omega arith) refl)

-- after the order
abbrev with_order : Design → Order × LinesLeft → Result ((Design × Order) × LinesLeft) ℕ
with_order matrix order = Ok ((matrix, order.0), order.1)

-- after the matrix
abbrev with_matrix : Design × LinesLeft → Result ((Design × Order) × LinesLeft) ℕ
with_matrix matrix = says order_in matrix.1 >>= λ order. with_order matrix.0 order

-- after the first line
abbrev with_version : Unit {0} × LinesLeft → Result ((Design × Order) × LinesLeft) ℕ
with_version version = matrix_in version.1 >>= λ matrix. with_matrix matrix

-- what a certificate begins with is read
pub head_written : (number : ℕ) (matrix : Design) (order : Order) (rest : List ℕ)
    → IsDesign matrix →
    (m : ℕ) × (head_in
    (lines_at number (version_line ++ (matrix_text matrix ++ (order_line order ++ rest))))
    ≡ Ok ((matrix, order), lines_at m rest))
unfolding head_in
head_written number matrix order rest sound =
    let after = order_line order ++ rest in
    let body = matrix_written matrix sound (number + 1) after in (
      body.0 + 1,
      step_on (says (two_words (codes "certificate") (codes "1"))
          (lines_at number (version_line ++ (matrix_text matrix ++ after))))
          (tt, lines_at (number + 1) (matrix_text matrix ++ after)) with_version _
          (line_written (two_words (codes "certificate") (codes "1"))
          (λ _. codes "certificate" ∷ codes "1" ∷ []) (λ _. Unit {0}) version_reads number tt
          (matrix_text matrix ++ after) tt)
          (step_on (matrix_in (lines_at (number + 1) (matrix_text matrix ++ after)))
          (matrix, lines_at body.0 after) with_matrix _ body.1
          (step_on (says order_in (lines_at body.0 after)) (order, lines_at (body.0 + 1) rest)
          (with_order matrix) _
          (line_written order_in (λ o. codes "order" ∷ order_name o ∷ []) (λ _. Unit {0})
          order_reads body.0 order rest tt)
          refl)),
    )

-- and what is read is what is written
pub head_is : (left rest : LinesLeft) (matrix : Design) (order : Order) →
    head_in left ≡ Ok ((matrix, order), rest) →
    (text_left left
    ≡ version_line ++ (matrix_text matrix ++ (order_line order ++ text_left rest)))
    × IsDesign matrix
unfolding head_in
head_is left rest matrix order e =
    let final : (Design × Order) × LinesLeft = ((matrix, order), rest) in
    let a =
    stepped (says (two_words (codes "certificate") (codes "1")) left) with_version final e in
    let b = stepped (matrix_in a.0.1) with_matrix final a.2 in
    let c = stepped (says order_in b.0.1) (with_order b.0.0) final b.2 in
    let both : ((b.0.0, c.0.0), c.0.1) ≡ final = cc in
    let same_matrix = ap (λ (p : (Design × Order) × LinesLeft). p.0.0) both in
    let same_order = ap (λ (p : (Design × Order) × LinesLeft). p.0.1) both in
    let after = ap (λ (p : (Design × Order) × LinesLeft). text_left p.1) both in
    let one =
    line_is (two_words (codes "certificate") (codes "1"))
    (λ _. codes "certificate" ∷ codes "1" ∷ []) (λ _. Unit {0}) version_reads left a.0.1 a.0.0
    a.1 in
    let two = matrix_is a.0.1 b.0.1 b.0.0 b.1 in
    let three =
    line_is order_in (λ o. codes "order" ∷ order_name o ∷ []) (λ _. Unit {0}) order_reads b.0.1
    c.0.1 c.0.0 c.1 in (
      one.0 ∙ ap (λ t. version_line ++ t)
          (two.0 ∙ ap (λ m. matrix_text m ++ text_left b.0.1) same_matrix
          ∙ ap (λ t. matrix_text matrix ++ t)
          (three.0 ∙ ap (λ o. order_line o ++ text_left c.0.1) same_order
          ∙ ap (λ t. order_line order ++ t) after)),
      subst IsDesign same_matrix two.1,
    )

-- a number of lines up to a limit
within : (highest n : ℕ) → n ≤ highest → IsWithin 0 highest n
within highest n small = record { low = omega arith; high = small }

-- the number of moves
moves_count : Reads (counted (codes "moves") 0 most_moves) (λ n. codes "moves" ∷ decimal n ∷ [])
    (IsWithin 0 most_moves)
moves_count =
    counted_reads (codes "moves") 0 most_moves (word_token (codes "moves") (omega arith) refl)
    (omega arith)

-- the number of rules
rules_count : Reads (counted (codes "rules") 0 most_moves) (λ n. codes "rules" ∷ decimal n ∷ [])
    (IsWithin 0 most_moves)
rules_count =
    counted_reads (codes "rules") 0 most_moves (word_token (codes "rules") (omega arith) refl)
    (omega arith)

-- that of starts, which is the number of cells
starts_count : (cells : ℕ) → cells ≤ 64 →
    Reads (counted (codes "starts") cells cells) (λ n. codes "starts" ∷ decimal n ∷ [])
    (IsWithin cells cells)
starts_count cells few =
    counted_reads (codes "starts") cells cells (word_token (codes "starts") (omega arith) refl)
    (omega arith)

-- that of joins
joins_count : Reads (counted (codes "joins") 0 (2 ^ 40 - 1))
    (λ n. codes "joins" ∷ decimal n ∷ []) (IsWithin 0 (2 ^ 40 - 1))
joins_count =
    counted_reads (codes "joins") 0 (2 ^ 40 - 1) (word_token (codes "joins") (omega arith) refl)
    (omega arith)

-- that of paths
paths_count : Reads (counted (codes "paths") 0 (2 ^ 32 - 1))
    (λ n. codes "paths" ∷ decimal n ∷ []) (IsWithin 0 (2 ^ 32 - 1))
paths_count =
    counted_reads (codes "paths") 0 (2 ^ 32 - 1) (word_token (codes "paths") (omega arith) refl)
    (omega arith)

-- moves and rules
abbrev pub Basis : Type 0
Basis = List (List ℤ) × List Rule

-- after the rules
abbrev with_rules : List (List ℤ) → List Rule × LinesLeft → Result (Basis × LinesLeft) ℕ
with_rules moves rules = Ok ((moves, rules.0), rules.1)

-- after the moves
abbrev with_moves : Design → List (List ℤ) × LinesLeft → Result (Basis × LinesLeft) ℕ
with_moves matrix moves =
    section (codes "rules") 0 most_moves (rule_in (symbol_count matrix)) moves.1 >>= λ rules.
    with_rules moves.0 rules

-- moves and rules of a matrix, in the shapes of their lines
pub record AreBasis (matrix : Design) (basis : Basis) : Type 0 where
  pub moves : AllByRecursion (IsMoveLine (length matrix.columns)) basis.0
  pub few_moves : length basis.0 ≤ most_moves
  pub rules : AllByRecursion (IsRuleLine (symbol_count matrix)) basis.1
  pub few_rules : length basis.1 ≤ most_moves

-- are read
pub basis_written : (matrix : Design) → 1 ≤ length matrix.columns → (number : ℕ) (basis : Basis)
    (rest : List ℕ) → AreBasis matrix basis →
    (m : ℕ) × (basis_in matrix
    (lines_at number
    (section_text (codes "moves") move_items basis.0 ++ (rules_text basis.1 ++ rest)))
    ≡ Ok (basis, lines_at m rest))
unfolding basis_in
basis_written matrix some number basis rest is =
    let cells = length matrix.columns in
    let symbols = symbol_count matrix in
    let after = rules_text basis.1 ++ rest in
    let one =
    section_written (all_of entry cells) move_items (IsMoveLine cells) (move_reads cells some)
    (codes "moves") 0 most_moves moves_count number basis.0 after is.moves
    (within most_moves (length basis.0) is.few_moves) in
    let two =
    section_written (rule_in symbols) rule_items (IsRuleLine symbols) (rule_reads symbols)
    (codes "rules") 0 most_moves rules_count one.0 basis.1 rest is.rules
    (within most_moves (length basis.1) is.few_rules) in (
      two.0,
      step_on (section (codes "moves") 0 most_moves (all_of entry cells)
          (lines_at number (section_text (codes "moves") move_items basis.0 ++ after)))
          (basis.0, lines_at one.0 after) (with_moves matrix) _ one.1
          (step_on (section (codes "rules") 0 most_moves (rule_in symbols) (lines_at one.0 after))
          (basis.1, lines_at two.0 rest) (with_rules basis.0) _ two.1 refl),
    )

-- and what is read is what is written
pub basis_is : (matrix : Design) → 1 ≤ length matrix.columns → (left rest : LinesLeft)
    (basis : Basis) → basis_in matrix left ≡ Ok (basis, rest) →
    (text_left left
    ≡ section_text (codes "moves") move_items basis.0 ++ (rules_text basis.1 ++ text_left rest))
    × AreBasis matrix basis
unfolding basis_in
basis_is matrix some left rest basis e =
    let cells = length matrix.columns in
    let symbols = symbol_count matrix in
    let final : Basis × LinesLeft = (basis, rest) in
    let a =
    stepped (section (codes "moves") 0 most_moves (all_of entry cells) left) (with_moves matrix)
    final e in
    let b =
    stepped (section (codes "rules") 0 most_moves (rule_in symbols) a.0.1) (with_rules a.0.0)
    final a.2 in
    let one =
    section_is (all_of entry cells) move_items (IsMoveLine cells) (move_reads cells some)
    (codes "moves") 0 most_moves moves_count left a.0.1 a.0.0 a.1 in
    let two =
    section_is (rule_in symbols) rule_items (IsRuleLine symbols) (rule_reads symbols)
    (codes "rules") 0 most_moves rules_count a.0.1 b.0.1 b.0.0 b.1 in
    let made : Basis = (a.0.0, b.0.0) in
    let both : (made, b.0.1) ≡ final = cc in
    let known : AreBasis matrix made = record {
      moves = one.1;
      few_moves = one.2.high;
      rules = two.1;
      few_rules = two.2.high;
    } in
    let same = ap (λ (p : Basis × LinesLeft). p.0) both in (
      one.0 ∙ ap (λ t. section_text (codes "moves") move_items a.0.0 ++ t) two.0
          ∙ ap (λ (p : Basis × LinesLeft). section_text (codes "moves") move_items p.0.0
          ++ (rules_text p.0.1 ++ text_left p.1)) both,
      subst (AreBasis matrix) same known,
    )

-- starts, joins and paths
abbrev pub Proof : Type 0
Proof = List Start × List Join × List Path

-- after the paths
abbrev with_paths : List Start → List Join → List Path × LinesLeft → Result (Proof × LinesLeft) ℕ
with_paths starts joins paths = Ok ((starts, joins, paths.0), paths.1)

-- after the joins
abbrev with_joins : List Start → List Join × LinesLeft → Result (Proof × LinesLeft) ℕ
with_joins starts joins =
    section (codes "paths") 0 (2 ^ 32 - 1) path_in joins.1 >>= λ paths.
    with_paths starts joins.0 paths

-- after the starts
abbrev with_starts : List Start × LinesLeft → Result (Proof × LinesLeft) ℕ
with_starts starts =
    section (codes "joins") 0 (2 ^ 40 - 1) join_in starts.1 >>= λ joins. with_joins starts.0 joins

-- what is in the shapes of its lines
pub record IsProof (cells : ℕ) (proof : Proof) : Type 0 where
  pub starts : AllByRecursion IsStart proof.0
  pub each_cell : length proof.0 ≡ cells
  pub joins : AllByRecursion IsJoin proof.1
  pub few_joins : length proof.1 ≤ 2 ^ 40 - 1
  pub paths : AllByRecursion IsPath proof.2
  pub few_paths : length proof.2 ≤ 2 ^ 32 - 1

-- as a text, with what follows it
abbrev pub proof_text : Proof → List ℕ → List ℕ
proof_text proof rest =
    section_text (codes "starts") start_items proof.0
    ++ (section_text (codes "joins") join_items proof.1
    ++ (section_text (codes "paths") path_items proof.2 ++ rest))

-- is read
pub proof_written : (cells : ℕ) → cells ≤ 64 → (number : ℕ) (proof : Proof) (rest : List ℕ) →
    IsProof cells proof →
    (m : ℕ) × (proof_in cells (lines_at number (proof_text proof rest))
    ≡ Ok (proof, lines_at m rest))
unfolding proof_in
proof_written cells few number proof rest is =
    let third = section_text (codes "paths") path_items proof.2 ++ rest in
    let second = section_text (codes "joins") join_items proof.1 ++ third in
    let many : IsWithin cells cells (length proof.0) =
    let e = is.each_cell in record { low = omega arith; high = omega arith } in
    let one =
    section_written start_in start_items IsStart start_reads (codes "starts") cells cells
    (starts_count cells few) number proof.0 second is.starts many in
    let two =
    section_written join_in join_items IsJoin join_reads (codes "joins") 0 (2 ^ 40 - 1)
    joins_count one.0 proof.1 third is.joins
    (within (2 ^ 40 - 1) (length proof.1) is.few_joins) in
    let three =
    section_written path_in path_items IsPath path_reads (codes "paths") 0 (2 ^ 32 - 1)
    paths_count two.0 proof.2 rest is.paths
    (within (2 ^ 32 - 1) (length proof.2) is.few_paths) in (
      three.0,
      step_on (section (codes "starts") cells cells start_in
          (lines_at number (proof_text proof rest)))
          (proof.0, lines_at one.0 second) with_starts _ one.1
          (step_on (section (codes "joins") 0 (2 ^ 40 - 1) join_in (lines_at one.0 second))
          (proof.1, lines_at two.0 third) (with_joins proof.0) _ two.1
          (step_on (section (codes "paths") 0 (2 ^ 32 - 1) path_in (lines_at two.0 third))
          (proof.2, lines_at three.0 rest) (with_paths proof.0 proof.1) _ three.1 refl)),
    )

-- and what is read is what is written
pub proof_is : (cells : ℕ) → cells ≤ 64 → (left rest : LinesLeft) (proof : Proof) →
    proof_in cells left ≡ Ok (proof, rest) →
    (text_left left ≡ proof_text proof (text_left rest)) × IsProof cells proof
unfolding proof_in
proof_is cells few left rest proof e =
    let final : Proof × LinesLeft = (proof, rest) in
    let a = stepped (section (codes "starts") cells cells start_in left) with_starts final e in
    let b =
    stepped (section (codes "joins") 0 (2 ^ 40 - 1) join_in a.0.1) (with_joins a.0.0) final a.2 in
    let c =
    stepped (section (codes "paths") 0 (2 ^ 32 - 1) path_in b.0.1) (with_paths a.0.0 b.0.0) final
    b.2 in
    let one =
    section_is start_in start_items IsStart start_reads (codes "starts") cells cells
    (starts_count cells few) left a.0.1 a.0.0 a.1 in
    let two =
    section_is join_in join_items IsJoin join_reads (codes "joins") 0 (2 ^ 40 - 1)
    joins_count a.0.1 b.0.1 b.0.0 b.1 in
    let three =
    section_is path_in path_items IsPath path_reads (codes "paths") 0 (2 ^ 32 - 1)
    paths_count b.0.1 c.0.1 c.0.0 c.1 in
    let made : Proof = (a.0.0, b.0.0, c.0.0) in
    let both : (made, c.0.1) ≡ final = cc in
    let low = one.2.low in
    let high = one.2.high in
    let known : IsProof cells made = record {
      starts = one.1;
      each_cell = omega arith;
      joins = two.1;
      few_joins = two.2.high;
      paths = three.1;
      few_paths = three.2.high;
    } in
    let same = ap (λ (p : Proof × LinesLeft). p.0) both in (
      one.0 ∙ ap (λ t. section_text (codes "starts") start_items a.0.0 ++ t)
          (two.0 ∙ ap (λ t. section_text (codes "joins") join_items b.0.0 ++ t) three.0)
          ∙ ap (λ (p : Proof × LinesLeft). proof_text p.0 (text_left p.1)) both,
      subst (IsProof cells) same known,
    )

-- after the last line
abbrev with_last : Unit {0} × LinesLeft → Result (Unit {0}) ℕ
with_last last = text_ends last.1

-- the end is read
pub ending_written : (number : ℕ) → ending_in (lines_at number (end_line ++ [])) ≡ Ok tt
unfolding ending_in
ending_written number =
    step_on (says (one_word (codes "end")) (lines_at number (end_line ++ [])))
    (tt, lines_at (number + 1) []) with_last _
    (line_written (one_word (codes "end")) (λ _. codes "end" ∷ []) (λ _. Unit {0}) end_reads
    number tt [] tt)
    refl

-- a text ends only where nothing is left
nothing_left : (number : ℕ) (pieces : List (List ℕ)) (x : Unit {0}) →
    ends number pieces ≡ Ok x → join_with_byte 10 pieces ≡ []
nothing_left number [] x e = absurd cc
nothing_left number ([] ∷ []) x e = refl
nothing_left number ([] ∷ (next ∷ others)) x e = absurd cc
nothing_left number ((b ∷ line) ∷ others) x e = absurd cc

-- and what is read as the end is it
pub ending_is : (left : LinesLeft) (x : Unit {0}) → ending_in left ≡ Ok x
    → text_left left ≡ end_line
unfolding ending_in
ending_is left x e =
    let a = stepped (says (one_word (codes "end")) left) with_last x e in
    let one =
    line_is (one_word (codes "end")) (λ _. codes "end" ∷ []) (λ _. Unit {0}) end_reads left a.0.1
    a.0.0 a.1 in
    one.0 ∙ ap (λ t. end_line ++ t) (nothing_left a.0.1.number a.0.1.pieces x a.2)
    ∙ append-nil end_line
