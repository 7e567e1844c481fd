-- The one text of a certificate.
use Rattle.std.specs.Fmt.{decimal, signed_decimal}
use Rattle.std.specs.List.{flat_map}
use Rattle.std.specs.Prelude.{List, [], codes, length, map, ℕ, ℤ, ◌++◌, ◌∷◌}
use Rattle.mb_certificate.specs.Certificate.{Certificate, Join, Path, Start}
use Rattle.mb_certificate.specs.CertificateText.{order_name}
use Rattle.mb_matrix.specs.Matrix.{Design}
use Rattle.mb_order.specs.Rewriting.{Rule}
use Rattle.mb_text.specs.Lines.{line}
use Rattle.mb_moves.specs.Written.{row_lines}

-- those of a move
abbrev pub move_items : List ℤ → List (List ℕ)
move_items move = map signed_decimal move

-- those of a rule
abbrev pub rule_items : Rule → List (List ℕ)
rule_items rule = map decimal rule.0 ++ (codes ">" ∷ map decimal rule.1)

-- those of two lists, after their lengths
abbrev pub trace_items : List ℕ → List ℕ → List (List ℕ)
trace_items first second =
    decimal (length first) ∷ decimal (length second) ∷ map decimal first ++ map decimal second

-- those of a start
abbrev pub start_items : Start → List (List ℕ)
start_items start = trace_items start.margin_steps start.cell_steps

-- those of a join
abbrev pub join_items : Join → List (List ℕ)
join_items join =
    decimal join.low ∷ decimal join.high ∷ trace_items join.low_steps join.high_steps

-- those of a path
abbrev pub path_items : Path → List (List ℕ)
path_items path =
    decimal path.rule ∷ decimal (length path.steps) ∷ map signed_decimal path.steps

-- a line with a word and the number of the lines that follow, and these
abbrev pub section_text : {A : Type 0} → List ℕ → (A → List (List ℕ)) → List A → List ℕ
section_text name items list =
    line (name ∷ decimal (length list) ∷ []) ++ flat_map line (map items list)

-- the text of a matrix
abbrev pub matrix_text : Design → List ℕ
matrix_text matrix =
    line (codes "matrix" ∷ decimal matrix.rows ∷ decimal (length matrix.columns) ∷ [])
    ++ flat_map line (row_lines matrix)

-- the text of a list of rules
abbrev pub rules_text : List Rule → List ℕ
rules_text rules = section_text (codes "rules") rule_items rules

-- the one text that a certificate is written as
unfoldable pub text_of : Certificate → List ℕ
text_of c =
    line (codes "certificate" ∷ codes "1" ∷ [])
    ++ (matrix_text c.matrix
    ++ (line (codes "order" ∷ order_name c.order ∷ [])
    ++ (section_text (codes "moves") move_items c.moves
    ++ (rules_text c.rules
    ++ (section_text (codes "starts") start_items c.starts
    ++ (section_text (codes "joins") join_items c.joins
    ++ (section_text (codes "paths") path_items c.paths
    ++ line (codes "end" ∷ []))))))))
