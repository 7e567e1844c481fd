-- A run on its way.
use Rattle.std.specs.List.{filter, range_with_len}
use Rattle.std.specs.Prelude.{List, length, map, ℕ, ◌++◌, ◌-◌, ◌≤◌}
use Rattle.mb_completion.specs.Run.{Outcome, Runs}
use Rattle.mb_matrix.specs.Matrix.{Design}
use Rattle.mb_order.specs.Peak.{left_of, pairs_below}
use Rattle.mb_order.specs.Rewriting.{Rule}
use Rattle.mb_order.specs.declared.order.Order.{Order}
use Rattle.mb_tables.specs.Vectors.{shares}

-- the pairs that share a symbol and take their turn before the pair i, j
abbrev pub pairs_before : List Rule → ℕ → ℕ → List (ℕ × ℕ)
pairs_before rules i j =
    filter (λ (p : ℕ × ℕ). shares (left_of rules p.0) (left_of rules p.1))
    (pairs_below j ++ map (λ k. let p : ℕ × ℕ = (k, j) in p) (range_with_len 0 i))

-- a run has gone on from some rules and looks to others: each end from there is one from here
pub record GoesOn
    (matrix : Design) (order : Order) (pairs : ℕ) (rules : List Rule) (looks : ℕ)
    (now : List Rule) (done : ℕ) : Type 0 where
  pub later : looks ≤ done
  pub within : done ≤ pairs
  pub born : length now - length rules ≤ done - looks
  pub longer : length rules ≤ length now
  pub ends : (end : Outcome) → Runs matrix order (pairs - done) now done end →
      Runs matrix order (pairs - looks) rules looks end
