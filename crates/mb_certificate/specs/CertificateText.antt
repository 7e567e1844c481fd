-- The certificate that a text is, or its first wrong line, and the text of a certificate.
use Rattle.std.specs.List.{list_all}
use Rattle.std.specs.Prelude.{Err, List, None, Ok, Option, Result, Some, codes, if◌then◌else◌, length, pos, zero, ℕ, ℤ, ◌+◌, ◌-◌, ◌^◌}
use Rattle.std.specs.Str.{bytes_eq}
use Rattle.mb_certificate.specs.Certificate.{Certificate, Join, Path, Start}
use Rattle.mb_certificate.specs.Reading.{ItemsLeft, LinesLeft, line_ends, lines_of, one, says, text_ends, times, word}
use Rattle.mb_certificate.specs.declared.fault.ReadFault.{ReadFault}
use Rattle.mb_certificate.specs.declared.fault.ReadFault.TheVariants.{OutOfMemory, Text}
use Rattle.mb_matrix.specs.Faults.{matrix_of}
use Rattle.mb_matrix.specs.Matrix.{Design, is_design_entry}
use Rattle.mb_order.specs.Limits.{largest_exponent}
use Rattle.mb_order.specs.Rewriting.{Rule}
use Rattle.mb_order.specs.declared.order.Order.TheVariants.{Grevlex, Lex}
use Rattle.mb_order.specs.declared.order.Order.{Order}
use Rattle.mb_tables.specs.Answers.{◌>>=◌}
use Rattle.mb_tables.specs.Limits.{most_cells, most_moves}
use Rattle.mb_text.specs.Lines.{line}
use Rattle.mb_text.specs.Plain.{at_most, number_within, plain_of, plain_signed_of, size_at_most}
use Rattle.mb_text.specs.Faults.{or_line}

-- the number of a rule
abbrev pub rule_number : List ℕ → Option ℕ
rule_number item = at_most (2 ^ 32 - 1) (plain_of item)

-- how many numbers follow
abbrev pub list_length : List ℕ → Option ℕ
list_length item = at_most (2 ^ 64 - 1) (plain_of item)

-- an exponent of a monomial
abbrev pub exponent : List ℕ → Option ℕ
exponent item = at_most largest_exponent (plain_of item)

-- an entry of a move
abbrev pub entry : List ℕ → Option ℤ
entry item = size_at_most (2 ^ 31 - 1) (plain_signed_of item)

-- a number that isn't 0
abbrev pub unless_zero : Option ℤ → Option ℤ
unless_zero (Some (pos zero)) = None
unless_zero z = z

-- the number of a move with a sign
abbrev pub signed_number : List ℕ → Option ℤ
signed_number item = unless_zero (size_at_most (2 ^ 32 - 1) (plain_signed_of item))

-- the name of an order
abbrev pub order_name : Order → List ℕ
order_name Lex = codes "lex"
order_name Grevlex = codes "grevlex"

-- the order of a name
abbrev pub order_named : List ℕ → Option Order
order_named item =
    if bytes_eq item (order_name Lex) then Some Lex
    else if bytes_eq item (order_name Grevlex) then Some Grevlex
    else None

-- a line of two words
abbrev pub two_words : List ℕ → List ℕ → ItemsLeft → Result (Unit {0}) ℕ
two_words first second items =
    one (word first) items >>= λ a. one (word second) a.1 >>= λ b. line_ends b.1

-- a line of one word
abbrev pub one_word : List ℕ → ItemsLeft → Result (Unit {0}) ℕ
one_word wanted items = one (word wanted) items >>= λ a. line_ends a.1

-- the numbers of rows and of cells of the matrix, 1 to 64 each
abbrev pub sizes_in : ItemsLeft → Result (ℕ × ℕ) ℕ
sizes_in items =
    one (word (codes "matrix")) items >>= λ name.
    one (number_within 1 most_cells) name.1 >>= λ rows.
    one (number_within 1 most_cells) rows.1 >>= λ cells.
    line_ends cells.1 >>= λ nothing.
    Ok (rows.0, cells.0)

-- a line of so many of something, and nothing else
abbrev pub all_of : {A : Type 0} → (List ℕ → Option A) → ℕ → ItemsLeft → Result (List A) ℕ
all_of read count items =
    times (one read) count items >>= λ found. line_ends found.1 >>= λ nothing. Ok found.0

-- a row of the matrix, of so many cells
abbrev pub row_in : ℕ → ItemsLeft → Result (List ℤ) ℕ
row_in cells items =
    all_of entry cells items >>= λ row.
    if list_all is_design_entry row then Ok row else Err items.number

-- an order
abbrev pub order_in : ItemsLeft → Result Order ℕ
order_in items =
    one (word (codes "order")) items >>= λ name.
    one order_named name.1 >>= λ order.
    line_ends order.1 >>= λ nothing.
    Ok order.0

-- a rule of monomials with so many symbols: its left side, `>`, and its right side
abbrev pub rule_in : ℕ → ItemsLeft → Result Rule ℕ
rule_in symbols items =
    times (one exponent) symbols items >>= λ left.
    one (word (codes ">")) left.1 >>= λ arrow.
    all_of exponent symbols arrow.1 >>= λ right.
    Ok (left.0, right)

-- two lists of rule numbers, after their lengths
abbrev pub traces_in : ItemsLeft → Result (List ℕ × List ℕ) ℕ
traces_in items =
    one list_length items >>= λ first.
    one list_length first.1 >>= λ second.
    times (one rule_number) first.0 second.1 >>= λ numbers.
    all_of rule_number second.0 numbers.1 >>= λ others.
    Ok (numbers.0, others)

-- a start
abbrev pub start_in : ItemsLeft → Result Start ℕ
start_in items =
    traces_in items >>= λ traces. Ok (record { margin_steps = traces.0; cell_steps = traces.1 })

-- a join
abbrev pub join_in : ItemsLeft → Result Join ℕ
join_in items =
    one rule_number items >>= λ low.
    one rule_number low.1 >>= λ high.
    traces_in high.1 >>= λ traces.
    Ok (record {
      low = low.0;
      high = high.0;
      low_steps = traces.0;
      high_steps = traces.1;
    })

-- a path
abbrev pub path_in : ItemsLeft → Result Path ℕ
path_in items =
    one rule_number items >>= λ rule.
    one list_length rule.1 >>= λ count.
    all_of signed_number count.0 count.1 >>= λ steps.
    Ok (record { rule = rule.0; steps = steps })

-- a word, and a number from the lowest to the highest
abbrev pub counted : List ℕ → ℕ → ℕ → ItemsLeft → Result ℕ ℕ
counted name lowest highest items =
    one (word name) items >>= λ named.
    one (number_within lowest highest) named.1 >>= λ count.
    line_ends count.1 >>= λ nothing.
    Ok count.0

-- a line with a word and a number, and as many lines that are read so
abbrev pub section : {A : Type 0} → List ℕ → ℕ → ℕ → (ItemsLeft → Result A ℕ) → LinesLeft →
    Result (List A × LinesLeft) ℕ
section name lowest highest read left =
    says (counted name lowest highest) left >>= λ count.
    times (says read) count.0 count.1

-- a matrix. One whose lines are right, and which is refused as a whole, is wrong at its last row
unfoldable pub matrix_in : LinesLeft → Result (Design × LinesLeft) ℕ
matrix_in left =
    says sizes_in left >>= λ sizes.
    times (says (row_in sizes.0.1)) sizes.0.0 sizes.1 >>= λ rows.
    or_line (rows.1.number - 1) (matrix_of (record { width = sizes.0.1; rows = rows.0 }))
    >>= λ matrix.
    Ok (matrix, rows.1)

-- what a certificate begins with: its matrix and the order
unfoldable pub head_in : LinesLeft → Result ((Design × Order) × LinesLeft) ℕ
head_in left =
    says (two_words (codes "certificate") (codes "1")) left >>= λ version.
    matrix_in version.1 >>= λ matrix.
    says order_in matrix.1 >>= λ order.
    Ok ((matrix.0, order.0), order.1)

-- how many symbols a monomial of the matrix has
abbrev pub symbol_count : Design → ℕ
symbol_count matrix = matrix.rows + length matrix.columns

-- the moves, and the rules
unfoldable pub basis_in : Design → LinesLeft → Result ((List (List ℤ) × List Rule) × LinesLeft) ℕ
basis_in matrix left =
    section (codes "moves") 0 most_moves (all_of entry (length matrix.columns)) left >>= λ moves.
    section (codes "rules") 0 most_moves (rule_in (symbol_count matrix)) moves.1 >>= λ rules.
    Ok ((moves.0, rules.0), rules.1)

-- the starts, as many as there are cells, the joins, and the paths
unfoldable pub proof_in : ℕ → LinesLeft →
    Result ((List Start × List Join × List Path) × LinesLeft) ℕ
proof_in cells left =
    section (codes "starts") cells cells start_in left >>= λ starts.
    section (codes "joins") 0 (2 ^ 40 - 1) join_in starts.1 >>= λ joins.
    section (codes "paths") 0 (2 ^ 32 - 1) path_in joins.1 >>= λ paths.
    Ok ((starts.0, joins.0, paths.0), paths.1)

-- the last line, and the end of the text
unfoldable pub ending_in : LinesLeft → Result (Unit {0}) ℕ
ending_in left = says (one_word (codes "end")) left >>= λ last. text_ends last.1

-- the certificate that a text is, or the number of its first wrong line
unfoldable pub certificate_of : List ℕ → Result Certificate ℕ
certificate_of text =
    head_in (lines_of text) >>= λ head.
    basis_in head.0.0 head.1 >>= λ basis.
    proof_in (length head.0.0.columns) basis.1 >>= λ proof.
    ending_in proof.1 >>= λ nothing.
    Ok (record {
      matrix = head.0.0;
      order = head.0.1;
      moves = basis.0.0;
      rules = basis.0.1;
      starts = proof.0.0;
      joins = proof.0.1;
      paths = proof.0.2;
    })

-- the number of the first wrong line; want of memory has none
abbrev pub read_cause : ReadFault → Option ℕ
read_cause (Text line) = Some line
read_cause OutOfMemory = None
