-- The first wrong line of a certificate's text, and why: each line is judged by itself.
use Rattle.std.specs.Int.RustNames.{unsigned_abs}
use Rattle.std.specs.List.{list_all}
use Rattle.std.specs.Option.{option_and_then, option_or}
use Rattle.std.specs.Ordering.{int_eq, is_gt}
use Rattle.std.specs.Prelude.{Bool, List, None, Option, Some, [], cond, drop, false, length, map, nat_eq, nat_le, neg_ℤ, negsuc, pos, replicate, slice_get, suc, true, zero, ℕ, ℤ, ◌&&◌, ◌+ℤ◌, ◌+◌, ◌++◌, ◌∷◌}
use Rattle.mb_certificate.specs.Certificate.{Certificate, Join, Path, Start}
use Rattle.mb_certificate.specs.Valid.{free_rules, of_cell, of_column}
use Rattle.mb_certificate.specs.declared.line_fault.Fault.{Fault}
use Rattle.mb_certificate.specs.declared.line_fault.Reason.TheVariants.{MoveMargins, NotDown, PairMissing, PairNotJoined, PathBelowZero, PathEnd, PathMissing, PeakTooHeavy, StartNotJoined, StepNotApplicable, WeightDiffers}
use Rattle.mb_certificate.specs.declared.line_fault.Reason.{Reason}
use Rattle.mb_matrix.specs.Matrix.{Design, column_at, rows_in}
use Rattle.mb_order.specs.Limits.{most_weight}
use Rattle.mb_order.specs.Monomial.{Monomial}
use Rattle.mb_order.specs.Order.{monomial_cmp}
use Rattle.mb_order.specs.Peak.{left_of, peak, right_of, shared_pairs, sides_of}
use Rattle.mb_order.specs.Rewriting.{Rule, made}
use Rattle.mb_order.specs.Weight.{weights}
use Rattle.mb_order.specs.declared.order.Order.{Order}
use Rattle.mb_tables.specs.Margin.{move_margin}
use Rattle.mb_tables.specs.Vectors.{within}
use lib.Pointwise.{pointwise}

-- a reason, unless a test passes
abbrev pub unless : Bool → Reason → Option Reason
unless true reason = None
unless false reason = Some reason

-- whether two monomials, weights or tables are the same
abbrev pub are_same : List ℕ → List ℕ → Bool
are_same u v = pointwise nat_eq u v

-- a move's line: its margins are to be 0
abbrev pub move_fault : Design → List ℤ → Option Reason
move_fault matrix move =
    unless (list_all (λ row. int_eq (move_margin row move) (pos 0)) (rows_in matrix)) MoveMargins

-- a rule's line: its sides are to be of equal weight, and the left side the larger
abbrev pub rule_fault : Design → Order → Rule → Option Reason
rule_fault matrix order rule =
    option_or (unless (are_same (weights matrix rule.0) (weights matrix rule.1)) WeightDiffers)
    (unless (is_gt (monomial_cmp order matrix.rows rule.0 rule.1)) NotDown)

-- what the rule of a number makes of a monomial, where there is one and its left side divides
abbrev pub rewritten : List Rule → ℕ → Monomial → Option Monomial
rewritten rules k m =
    option_and_then (λ (rule : Rule). cond (within rule.0 m) (Some (made rule m)) None)
    (slice_get rules k)

-- what the rules with these numbers make of a monomial, one after the other
unfoldable pub replay : List Rule → List ℕ → Monomial → Option Monomial
replay rules [] m = Some m
replay rules (k ∷ trace) m = option_and_then (λ next. replay rules trace next) (rewritten rules k m)

-- both traces are to go through, and their ends to be the same
abbrev pub ends_fault : Reason → Option Monomial → Option Monomial → Option Reason
ends_fault differ (Some p) (Some q) = unless (are_same p q) differ
ends_fault differ (Some p) None = Some StepNotApplicable
ends_fault differ None q = Some StepNotApplicable

-- the line of the start of cell j
abbrev pub start_fault : Design → List Rule → ℕ → Start → Option Reason
start_fault matrix rules j start =
    ends_fault StartNotJoined
    (replay rules start.margin_steps (of_column (length matrix.columns) (column_at matrix j)))
    (replay rules start.cell_steps (of_cell matrix j))

-- whether no margin weighs more than 65,535
abbrev pub is_light : Design → Monomial → Bool
is_light matrix m = list_all (λ weight. nat_le weight most_weight) (weights matrix m)

-- the peak of a join's rules is to be light, and its traces to lead both sides to one monomial
abbrev pub peak_fault : Design → List Rule → Join → Rule → Rule → Option Reason
peak_fault matrix rules join low high =
    option_or (unless (is_light matrix (peak low high)) PeakTooHeavy)
    (ends_fault PairNotJoined
    (replay rules join.low_steps (made low (peak low high)))
    (replay rules join.high_steps (made high (peak low high))))

-- a join's line, where this pair of rules is the next, or none is left
abbrev pub join_fault : Design → List Rule → Option (ℕ × ℕ) → Join → Option Reason
join_fault matrix rules None join = Some PairMissing
join_fault matrix rules (Some pair) join =
    option_or (unless (nat_eq pair.0 join.low && nat_eq pair.1 join.high) PairMissing)
    (peak_fault matrix rules join (sides_of rules join.low) (sides_of rules join.high))

-- whether a signed number is that of a move, from 1
abbrev pub names_move : List (List ℤ) → ℤ → Bool
names_move moves step = nat_le 1 (unsigned_abs step) && nat_le (unsigned_abs step) (length moves)

-- a count that isn't below 0
abbrev pub count_of : ℤ → Option ℕ
count_of (pos n) = Some n
count_of (negsuc n) = None

-- the table that a move makes of another, unless a count is below 0
unfoldable pub added : List ℕ → List ℤ → Option (List ℕ)
added [] [] = Some []
added [] (z ∷ move) = None
added (x ∷ u) [] = None
added (x ∷ u) (z ∷ move) =
    option_and_then (λ y. option_and_then (λ v. Some (y ∷ v)) (added u move))
    (count_of (pos x +ℤ z))

-- the table that a signed number makes of another
abbrev pub moved_by : List (List ℤ) → ℤ → List ℕ → Option (List ℕ)
moved_by moves (pos zero) u = None
moved_by moves (pos (suc k)) u = option_and_then (added u) (slice_get moves k)
moved_by moves (negsuc k) u =
    option_and_then (λ move. added u (map neg_ℤ move)) (slice_get moves k)

-- the table that signed numbers make of another, one after the other
unfoldable pub walk : List (List ℤ) → List ℤ → List ℕ → Option (List ℕ)
walk moves [] u = Some u
walk moves (step ∷ steps) u =
    option_and_then (λ next. walk moves steps next) (moved_by moves step u)

-- a path is not to pass below 0, and to end at a table
abbrev pub end_fault : List ℕ → Option (List ℕ) → Option Reason
end_fault v None = Some PathBelowZero
end_fault v (Some end) = unless (are_same end v) PathEnd

-- a path's steps are to be of moves, and to lead a table to another
abbrev pub steps_fault : List (List ℤ) → List ℤ → List ℕ → List ℕ → Option Reason
steps_fault moves steps u v =
    option_or (unless (list_all (names_move moves) steps) StepNotApplicable)
    (end_fault v (walk moves steps u))

-- a path's line, where this rule is the next margin-free one, or none is left
abbrev pub path_fault : Design → List Rule → List (List ℤ) → Option ℕ → Path → Option Reason
path_fault matrix rules moves None path = Some PathMissing
path_fault matrix rules moves (Some k) path =
    option_or (unless (nat_eq k path.rule) PathMissing)
    (steps_fault moves path.steps (drop matrix.rows (left_of rules path.rule))
    (drop matrix.rows (right_of rules path.rule)))

-- what is wrong with some lines, each judged by its number among them
unfoldable pub faults_from : {X : Type 0} → (ℕ → X → Option Reason) → ℕ → List X →
    List (Option Reason)
faults_from fault k [] = []
faults_from fault k (x ∷ xs) = fault k x ∷ faults_from fault (suc k) xs

-- the same, from the first
abbrev pub faults_in : {X : Type 0} → (ℕ → X → Option Reason) → List X → List (Option Reason)
faults_in fault xs = faults_from fault 0 xs

-- the line after so many is not to come where some are left
abbrev pub left_over : ℕ → ℕ → Reason → Option Reason
left_over all count reason = unless (nat_le all count) reason

-- what is wrong with the lines of the moves
abbrev pub move_lines : Certificate → List (Option Reason)
move_lines c = faults_in (λ k move. move_fault c.matrix move) c.moves

-- with those of the rules
abbrev pub rule_lines : Certificate → List (Option Reason)
rule_lines c = faults_in (λ k rule. rule_fault c.matrix c.order rule) c.rules

-- with those of the starts
abbrev pub start_lines : Certificate → List (Option Reason)
start_lines c = faults_in (λ j start. start_fault c.matrix c.rules j start) c.starts

-- with those of the joins, which take the pairs of rules that share a symbol in turn, and with
-- the line after them, where pairs are left
abbrev pub join_lines : Certificate → List (Option Reason)
join_lines c =
    let pairs = shared_pairs c.rules in
    faults_in (λ k join. join_fault c.matrix c.rules (slice_get pairs k) join) c.joins
    ++ (left_over (length pairs) (length c.joins) PairMissing ∷ [])

-- with those of the paths, which take the margin-free rules in turn, and with the line after them,
-- where rules are left
abbrev pub path_lines : Certificate → List (Option Reason)
path_lines c =
    let free = free_rules c.matrix.rows c.rules in
    faults_in (λ k path. path_fault c.matrix c.rules c.moves (slice_get free k) path) c.paths
    ++ (left_over (length free) (length c.paths) PathMissing ∷ [])

-- what is wrong with each line of the text: the first one, those of the matrix, that of the order
-- and that of the number of moves; then the moves, the rules and the starts, each list with the
-- line after it, which has a number; and the joins and the paths
unfoldable pub faults : Certificate → List (Option Reason)
faults c =
    replicate (c.matrix.rows + 4) None
    ++ (move_lines c ++ (None ∷ (rule_lines c ++ (None ∷ (start_lines c ++ (None
    ∷ (join_lines c ++ path_lines c)))))))

-- the first of some lines that is wrong, where they are numbered from this one on
unfoldable pub first_from : ℕ → List (Option Reason) → Option Fault
first_from line [] = None
first_from line (Some reason ∷ rest) = Some (record { line = line; reason = reason })
first_from line (None ∷ rest) = first_from (suc line) rest

-- the first wrong line of the text, from 1
abbrev pub first_fault : Certificate → Option Fault
first_fault c = first_from 1 (faults c)
