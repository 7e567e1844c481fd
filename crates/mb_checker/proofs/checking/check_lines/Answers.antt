use Rattle.std.proofs.Common.{ap, arith, length, rules as proof_rules, subst, sym, ◌+◌, ◌≡◌}
use Rattle.std.proofs.lemmas.List.{length-map}
use Rattle.mb_certificate.specs.FirstFault.{first_fault, first_from, join_lines, move_lines, path_lines, rule_lines, start_lines}
use Rattle.mb_certificate.specs.Sides.{sides}
use Rattle.mb_checker.proofs.WholeText.{from-top, from_joins, from_rules, from_starts, goes-on, stops}
use Rattle.mb_checker.proofs.checking.check_lines.Goals as goal
use Rattle.mb_checker.specs.Finds.{Finds}
use Rattle.mb_matrix.specs.Matrix.{Design}

pub returns-in_err-check_moves : goal.returns-in_err-check_moves
returns-in_err-check_moves c =
    let parts = c.args.certificate.now in
    let line = c.from-line.result + 5 in
    let rows = ap (λ (d : Design). d.rows) c.matrix.ensures.matrix in
    let told = c.rows.ensures.rows in
    let taken = c.from-line.ensures in
    let top = from-top parts line (omega arith) in
    let same : c.from_residual.result ≡ c.check_moves.result = search proof_rules in
    stops c.from_residual.result c.check_moves.result c.in_err-check_moves.field-0.0
    (first_fault parts) (first_from line (move_lines parts))
    (from_rules parts (line + length parts.moves + 1)) same c.in_err-check_moves.was top
    c.check_moves.ensures.finds

pub returns-in_err-check_rules : goal.returns-in_err-check_rules
returns-in_err-check_rules c =
    let parts = c.args.certificate.now in
    let line = c.from-line.result + 5 in
    let rows = ap (λ (d : Design). d.rows) c.matrix.ensures.matrix in
    let told = c.rows.ensures.rows in
    let taken = c.from-line.ensures in
    let top = from-top parts line (omega arith) in
    let rule_line = line + c.from.result + 1 in
    let moves = ap length c.moves.ensures.moves in
    let count = c.len.ensures.moves in
    let same_count = c.from.ensures in
    let second = goes-on (first_fault parts) (first_from line (move_lines parts))
    (from_rules parts) (line + length parts.moves + 1) rule_line top
    c.in_ok-check_moves.ensures.finds (omega arith) in
    let same : c.from_residual-in_err-check_rules.result ≡ c.check_rules.result =
    search proof_rules in
    stops c.from_residual-in_err-check_rules.result c.check_rules.result
    c.in_err-check_rules.field-0.0
    (first_fault parts) (first_from rule_line (rule_lines parts))
    (from_starts parts (rule_line + length parts.rules + 1)) same c.in_err-check_rules.was second
    c.check_rules.ensures.finds

pub returns-in_err-check_starts : goal.returns-in_err-check_starts
returns-in_err-check_starts c =
    let parts = c.args.certificate.now in
    let line = c.from-line.result + 5 in
    let rows = ap (λ (d : Design). d.rows) c.matrix.ensures.matrix in
    let told = c.rows.ensures.rows in
    let taken = c.from-line.ensures in
    let top = from-top parts line (omega arith) in
    let rule_line = line + c.from.result + 1 in
    let moves = ap length c.moves.ensures.moves in
    let count = c.len.ensures.moves in
    let same_count = c.from.ensures in
    let second = goes-on (first_fault parts) (first_from line (move_lines parts))
    (from_rules parts) (line + length parts.moves + 1) rule_line top
    c.in_ok-check_moves.ensures.finds (omega arith) in
    let start_line = rule_line + length c.rules.result.now + 1 in
    let pairs = ap length c.rules.ensures.rules in
    let mapped = length-map c.rules.result.now sides in
    let third = goes-on (first_fault parts) (first_from rule_line (rule_lines parts))
    (from_starts parts) (rule_line + length parts.rules + 1) start_line second
    c.in_ok-check_rules.ensures.finds (omega arith) in
    let same : c.from_residual-in_err-check_starts.result ≡ c.check_starts.result =
    search proof_rules in
    stops c.from_residual-in_err-check_starts.result c.check_starts.result
    c.in_err-check_starts.field-0.0
    (first_fault parts) (first_from start_line (start_lines parts))
    (from_joins parts (start_line + length parts.starts + 1)) same c.in_err-check_starts.was third
    c.check_starts.ensures

pub returns-in_err-check_joins : goal.returns-in_err-check_joins
returns-in_err-check_joins c =
    let parts = c.args.certificate.now in
    let line = c.from-line.result + 5 in
    let rows = ap (λ (d : Design). d.rows) c.matrix.ensures.matrix in
    let told = c.rows.ensures.rows in
    let taken = c.from-line.ensures in
    let top = from-top parts line (omega arith) in
    let rule_line = line + c.from.result + 1 in
    let moves = ap length c.moves.ensures.moves in
    let count = c.len.ensures.moves in
    let same_count = c.from.ensures in
    let second = goes-on (first_fault parts) (first_from line (move_lines parts))
    (from_rules parts) (line + length parts.moves + 1) rule_line top
    c.in_ok-check_moves.ensures.finds (omega arith) in
    let start_line = rule_line + length c.rules.result.now + 1 in
    let pairs = ap length c.rules.ensures.rules in
    let mapped = length-map c.rules.result.now sides in
    let third = goes-on (first_fault parts) (first_from rule_line (rule_lines parts))
    (from_starts parts) (rule_line + length parts.rules + 1) start_line second
    c.in_ok-check_rules.ensures.finds (omega arith) in
    let join_line = start_line + length c.starts.result.now + 1 in
    let starts = ap length c.starts.ensures.starts in
    let fourth = goes-on (first_fault parts) (first_from start_line (start_lines parts))
    (from_joins parts) (start_line + length parts.starts + 1) join_line third
    c.in_ok-check_starts.ensures (omega arith) in
    let same : c.from_residual-in_err-check_joins.result ≡ c.check_joins.result =
    search proof_rules in
    stops c.from_residual-in_err-check_joins.result c.check_joins.result
    c.in_err-check_joins.field-0.0
    (first_fault parts) (first_from join_line (join_lines parts))
    (first_from (join_line + length parts.joins + 1) (path_lines parts)) same
    c.in_err-check_joins.was fourth c.check_joins.ensures

pub returns : goal.returns
returns c =
    let parts = c.args.certificate.now in
    let line = c.from-line.result + 5 in
    let rows = ap (λ (d : Design). d.rows) c.matrix.ensures.matrix in
    let told = c.rows.ensures.rows in
    let taken = c.from-line.ensures in
    let top = from-top parts line (omega arith) in
    let rule_line = line + c.from.result + 1 in
    let moves = ap length c.moves.ensures.moves in
    let count = c.len.ensures.moves in
    let same_count = c.from.ensures in
    let second = goes-on (first_fault parts) (first_from line (move_lines parts))
    (from_rules parts) (line + length parts.moves + 1) rule_line top
    c.in_ok-check_moves.ensures.finds (omega arith) in
    let start_line = rule_line + length c.rules.result.now + 1 in
    let pairs = ap length c.rules.ensures.rules in
    let mapped = length-map c.rules.result.now sides in
    let third = goes-on (first_fault parts) (first_from rule_line (rule_lines parts))
    (from_starts parts) (rule_line + length parts.rules + 1) start_line second
    c.in_ok-check_rules.ensures.finds (omega arith) in
    let join_line = start_line + length c.starts.result.now + 1 in
    let starts = ap length c.starts.ensures.starts in
    let fourth = goes-on (first_fault parts) (first_from start_line (start_lines parts))
    (from_joins parts) (start_line + length parts.starts + 1) join_line third
    c.in_ok-check_starts.ensures (omega arith) in
    let path_line = join_line + length c.joins.result.now + 1 in
    let joins = ap length c.joins.ensures.joins in
    let fifth = goes-on (first_fault parts) (first_from join_line (join_lines parts))
    (λ l. first_from l (path_lines parts)) (join_line + length parts.joins + 1) path_line fourth
    c.in_ok-check_joins.ensures (omega arith) in
    subst (Finds c.check_paths.result) (sym fifth) c.check_paths.ensures
