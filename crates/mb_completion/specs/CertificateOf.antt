-- The certificate of a finished run, computed. A run's reduced basis, and what is made of it, are
-- one, and this is it.
use Rattle.std.specs.List.{filter, list_all, position_or_len, range_with_len}
use Rattle.std.specs.Option.{option_map_or}
use Rattle.std.specs.Prelude.{Bool, List, [], length, map, not, suc, zero, ℕ, ◌∷◌, ◌||◌}
use Rattle.std.specs.declared.cmp.Ordering.{Ordering}
use Rattle.mb_certificate.specs.Certificate.{Certificate, Join, Start}
use Rattle.mb_certificate.specs.Valid.{of_cell, of_column}
use Rattle.mb_completion.specs.Made.{moves_of, paths_of}
use Rattle.mb_completion.specs.Outcome.{lowered, normal_form}
use Rattle.mb_completion.specs.loops.Kept.{put}
use Rattle.mb_matrix.specs.Fiber.{fill}
use Rattle.mb_matrix.specs.Matrix.{Design, column_at}
use Rattle.mb_order.specs.Monomial.{Monomial}
use Rattle.mb_order.specs.Peak.{peak, shared_pairs, sides_of}
use Rattle.mb_order.specs.Rewriting.{Rule, made}
use Rattle.mb_order.specs.Weight.{symbols_of, weights}
use Rattle.mb_order.specs.declared.order.Order.{Order}
use Rattle.mb_rules.specs.RuleList.{cmp_of}
use Rattle.mb_tables.specs.Vectors.{within}

-- ---- the reduced basis

-- whether no left side divides that of a rule but the same
abbrev pub is_minimal : List Rule → Rule → Bool
is_minimal rules rule =
    list_all (λ (other : Rule). not (within other.0 rule.0) || within rule.0 other.0) rules

-- a rule with the normal form of its right side
abbrev pub with_form : Design → List Rule → Rule → Rule
with_form matrix rules rule = (rule.0, normal_form matrix rules rule.1)

-- rules ascending by left side, one of each left side
unfoldable pub in_order : (Monomial → Monomial → Ordering) → List Rule → List Rule
in_order compare [] = []
in_order compare (rule ∷ rules) = put compare rule (in_order compare rules)

-- the reduced basis: the rules with minimal left sides, with the normal forms of their right sides,
-- in order
unfoldable pub reduced_of : Design → Order → List Rule → List Rule
reduced_of matrix order rules =
    in_order (cmp_of order matrix) (map (with_form matrix rules) (filter (is_minimal rules) rules))

-- ---- what is made of it

-- the numbers of the rules that lower a monomial, each the first that fits, up to a number of steps
unfoldable pub trace_by : ℕ → List Rule → Monomial → List ℕ
trace_by zero rules m = []
trace_by (suc steps) rules m =
    option_map_or
    (λ next. position_or_len (λ (rule : Rule). within rule.0 m) rules ∷ trace_by steps rules next)
    (lowered rules m) []

-- those that lead it to its normal form: each step goes down among the monomials of its weight
unfoldable pub normal_trace : Design → List Rule → Monomial → List ℕ
normal_trace matrix rules m =
    trace_by (length (fill (symbols_of matrix) (weights matrix m))) rules m

-- the start at a cell
abbrev pub start_at : Design → List Rule → ℕ → Start
start_at matrix rules j = record {
  margin_steps = normal_trace matrix rules (of_column (length matrix.columns) (column_at matrix j));
  cell_steps = normal_trace matrix rules (of_cell matrix j);
}

-- the join of a pair of rules
abbrev pub join_of : Design → List Rule → ℕ × ℕ → Join
join_of matrix rules pair =
    let low = sides_of rules pair.0 in
    let high = sides_of rules pair.1 in
    record {
      low = pair.0;
      high = pair.1;
      low_steps = normal_trace matrix rules (made low (peak low high));
      high_steps = normal_trace matrix rules (made high (peak low high));
    }

-- the certificate of a reduced basis
unfoldable pub certificate_of_basis : Design → Order → List Rule → Certificate
certificate_of_basis matrix order rules = record {
  matrix = matrix;
  order = order;
  moves = moves_of matrix.rows rules;
  rules = rules;
  starts = map (start_at matrix rules) (range_with_len 0 (length matrix.columns));
  joins = map (join_of matrix rules) (shared_pairs rules);
  paths = paths_of matrix.rows rules;
}

-- the certificate of a run that is finished with these rules
abbrev pub certificate_of_run : Design → Order → List Rule → Certificate
certificate_of_run matrix order final =
    certificate_of_basis matrix order (reduced_of matrix order final)
