-- What is written of a certificate is read as it, and what is read is what is written.
use Rattle.std.proofs.Common.{List, Ok, Result, [], ap, append-nil, arith, length, refl, subst, sym, ℕ, ◌++◌, ◌∙◌, ◌≡◌}
use Rattle.std.proofs.lemmas.List.Elements.{All-from_recursion}
use Rattle.std.proofs.lemmas.List.Splits.{join_with_byte-slice_split}
use Rattle.mb_certificate.proofs.CertificateTexts.{AreBasis, Basis, IsProof, Proof, basis_is, basis_written, end_line, ending_is, ending_written, head_is, head_written, order_line, proof_is, proof_text, proof_written, version_line}
use Rattle.mb_text.proofs.RecordSteps.{step_on, stepped}
use Rattle.mb_certificate.proofs.LineLaws.{lines_at}
use Rattle.mb_certificate.proofs.LineReaders.{IsMoveLine, in_turn}
use Rattle.mb_certificate.proofs.ListReaders.{IsRuleLine}
use Rattle.mb_certificate.specs.Certificate.{AreParts, Certificate, IsJoin, IsPath, IsStart}
use Rattle.mb_certificate.specs.CertificateText.{basis_in, certificate_of, ending_in, head_in, proof_in, symbol_count}
use Rattle.mb_certificate.specs.Reading.{LinesLeft, lines_of}
use Rattle.mb_certificate.specs.Written.{matrix_text, move_items, rules_text, section_text, text_of}
use Rattle.mb_matrix.specs.Matrix.{Design, IsDesign}
use Rattle.mb_order.specs.declared.order.Order.{Order}
use Rattle.mb_tables.specs.Answers.{◌>>=◌}
use Rattle.std.proofs.Common.{codes}

-- what a certificate begins with
abbrev Head : Type 0
Head = Design × Order

-- the certificate of these
abbrev made : Head → Basis → Proof → Certificate
made head basis proof =
    record {
      matrix = head.0;
      order = head.1;
      moves = basis.0;
      rules = basis.1;
      starts = proof.0;
      joins = proof.1;
      paths = proof.2;
    }

-- after the end
abbrev with_ending : Head → Basis → Proof → Unit {0} → Result Certificate ℕ
with_ending head basis proof nothing = Ok (made head basis proof)

-- after the starts, joins and paths
abbrev with_proof : Head → Basis → Proof × LinesLeft → Result Certificate ℕ
with_proof head basis proof =
    ending_in proof.1 >>= λ nothing. with_ending head basis proof.0 nothing

-- after the moves and rules
abbrev with_basis : Head → Basis × LinesLeft → Result Certificate ℕ
with_basis head basis =
    proof_in (length head.0.columns) basis.1 >>= λ proof. with_proof head basis.0 proof

-- after the matrix and the order
abbrev with_head : Head × LinesLeft → Result Certificate ℕ
with_head head = basis_in head.0.0 head.1 >>= λ basis. with_basis head.0 basis

-- the text of a certificate from the moves on
abbrev rest_text : Basis → Proof → List ℕ → List ℕ
rest_text basis proof rest =
    section_text (codes "moves") move_items basis.0
    ++ (rules_text basis.1 ++ proof_text proof rest)

-- the whole text
abbrev whole_text : Head → Basis → Proof → List ℕ → List ℕ
whole_text head basis proof rest =
    version_line
    ++ (matrix_text head.0 ++ (order_line head.1 ++ rest_text basis proof rest))

-- the text of a certificate is that of its parts
text_is : (head : Head) (basis : Basis) (proof : Proof) →
    text_of (made head basis proof) ≡ whole_text head basis proof end_line
unfolding text_of
text_is head basis proof = refl

-- the parts of a certificate have the shapes of its lines
basis_of_parts : (c : Certificate) → AreParts c → AreBasis c.matrix (c.moves, c.rules)
basis_of_parts c is = record {
  moves =
      in_turn (IsMoveLine (length c.matrix.columns)) c.moves
      (λ k d l. record { long = is.moves.each k d l; entries = is.moves.entries k d l });
  few_moves = is.moves.few;
  rules =
      in_turn (IsRuleLine (symbol_count c.matrix)) c.rules
      (λ k d l.
      let sides = is.rules k d l in
      record {
        left_long = sides.left.symbols;
        left_small = sides.left.small;
        right_long = sides.right.symbols;
        right_small = sides.right.small;
      });
  few_rules = is.few_rules;
}

-- so have the starts, joins and paths
proof_of_parts : (c : Certificate) → AreParts c →
    IsProof (length c.matrix.columns) (c.starts, c.joins, c.paths)
proof_of_parts c is =
    let joins = is.few_joins in
    let paths = is.few_paths in
    record {
      starts = in_turn IsStart c.starts is.starts;
      each_cell = is.each_cell;
      joins = in_turn IsJoin c.joins is.joins;
      few_joins = omega arith;
      paths = in_turn IsPath c.paths is.paths;
      few_paths = omega arith;
    }

-- what is written of a certificate is read as it
pub certificate_written : (c : Certificate) → AreParts c → certificate_of (text_of c) ≡ Ok c
unfolding certificate_of
certificate_written c is =
    let head : Head = (c.matrix, c.order) in
    let basis : Basis = (c.moves, c.rules) in
    let proof : Proof = (c.starts, c.joins, c.paths) in
    let last = end_line ++ [] in
    let padded : text_of c ≡ whole_text head basis proof last =
    text_is head basis proof ∙ ap (whole_text head basis proof) (sym (append-nil end_line)) in
    let one = head_written 1 c.matrix c.order (rest_text basis proof last) is.design in
    let two =
    basis_written c.matrix is.design.some_cells one.0 basis (proof_text proof last)
    (basis_of_parts c is) in
    let three =
    proof_written (length c.matrix.columns) is.design.few_cells two.0 proof last
    (proof_of_parts c is) in
    ap (λ text. head_in (lines_of text) >>= λ head. with_head head) padded
    ∙ step_on (head_in (lines_at 1 (whole_text head basis proof last)))
    (head, lines_at one.0 (rest_text basis proof last)) with_head _ one.1
    (step_on (basis_in c.matrix (lines_at one.0 (rest_text basis proof last)))
    (basis, lines_at two.0 (proof_text proof last)) (with_basis head) _ two.1
    (step_on (proof_in (length c.matrix.columns) (lines_at two.0 (proof_text proof last)))
    (proof, lines_at three.0 last) (with_proof head basis) _ three.1
    (step_on (ending_in (lines_at three.0 last)) tt (with_ending head basis proof) _
    (ending_written three.0) refl)))

-- what was read has the shapes of the parts of a certificate
are_parts : (head : Head) (basis : Basis) (proof : Proof) → IsDesign head.0 →
    AreBasis head.0 basis → IsProof (length head.0.columns) proof → AreParts (made head basis proof)
are_parts head basis proof sound is proves =
    let moves = All-from_recursion (IsMoveLine (length head.0.columns)) basis.0 is.moves in
    let rules = All-from_recursion (IsRuleLine (symbol_count head.0)) basis.1 is.rules in
    let joins = proves.few_joins in
    let paths = proves.few_paths in
    record {
      design = sound;
      moves = record {
        positive = sound.some_cells;
        narrow = sound.few_cells;
        each = λ k d l. (moves k d l).long;
        some = omega arith;
        few = is.few_moves;
        entries = λ k d l. (moves k d l).entries;
      };
      rules =
          λ k d l.
          let rule = rules k d l in
          record {
            left = record { symbols = rule.left_long; small = rule.left_small };
            right = record { symbols = rule.right_long; small = rule.right_small };
          };
      few_rules = is.few_rules;
      starts = All-from_recursion IsStart proof.0 proves.starts;
      each_cell = proves.each_cell;
      joins = All-from_recursion IsJoin proof.1 proves.joins;
      few_joins = omega arith;
      paths = All-from_recursion IsPath proof.2 proves.paths;
      few_paths = omega arith;
    }

-- a text that is read as a certificate is what is written of it
pub certificate_is : (text : List ℕ) (c : Certificate) → certificate_of text ≡ Ok c →
    (text ≡ text_of c) × AreParts c
unfolding certificate_of
certificate_is text c e =
    let a = stepped (head_in (lines_of text)) with_head c e in
    let head = a.0.0 in
    let b = stepped (basis_in head.0 a.0.1) (with_basis head) c a.2 in
    let basis = b.0.0 in
    let d = stepped (proof_in (length head.0.columns) b.0.1) (with_proof head basis) c b.2 in
    let proof = d.0.0 in
    let f = stepped (ending_in d.0.1) (with_ending head basis proof) c d.2 in
    let same : made head basis proof ≡ c = cc in
    let one = head_is (lines_of text) a.0.1 head.0 head.1 a.1 in
    let two = basis_is head.0 one.1.some_cells a.0.1 b.0.1 basis b.1 in
    let three = proof_is (length head.0.columns) one.1.few_cells b.0.1 d.0.1 proof d.1 in
    let four = ending_is d.0.1 f.0 f.1 in
    let found : (text ≡ text_of (made head basis proof)) × AreParts (made head basis proof) = (
      sym (join_with_byte-slice_split 10 text) ∙ one.0
          ∙ ap (λ t. version_line ++ (matrix_text head.0 ++ (order_line head.1 ++ t)))
          (two.0 ∙ ap (λ t. section_text (codes "moves") move_items basis.0
          ++ (rules_text basis.1 ++ t)) (three.0 ∙ ap (proof_text proof) four))
          ∙ sym (text_is head basis proof),
      are_parts head basis proof one.1 two.1 three.1,
    ) in
    subst (λ c. (text ≡ text_of c) × AreParts c) same found

-- the parts that were read, one after the other
pub parts_read : (start first second third : LinesLeft) (head : Head) (basis : Basis)
    (proof : Proof) (cells : ℕ) → head_in start ≡ Ok (head, first) →
    basis_in head.0 first ≡ Ok (basis, second) → cells ≡ length head.0.columns →
    proof_in cells second ≡ Ok (proof, third) → AreParts (made head basis proof)
parts_read start first second third head basis proof cells e f same g =
    let one = head_is start first head.0 head.1 e in
    let two = basis_is head.0 one.1.some_cells first second basis f in
    let three =
    proof_is (length head.0.columns) one.1.few_cells second third proof
    (ap (λ n. proof_in n second) (sym same) ∙ g) in
    are_parts head basis proof one.1 two.1 three.1
