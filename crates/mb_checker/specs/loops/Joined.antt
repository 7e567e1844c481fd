-- The lines of joins, judged pair by pair.
use Rattle.std.specs.List.{filter, range_with_len}
use Rattle.std.specs.Prelude.{Bool, List, length, map, ℕ, ◌++◌, ◌<◌, ◌≡◌, ◌≤◌, ◌^◌}
use Rattle.mb_certificate.specs.Certificate.{Certificate}
use Rattle.mb_certificate.specs.FirstFault.{join_lines}
use Rattle.mb_checker.specs.loops.Lines.{AreRightBefore}
use Rattle.mb_order.specs.Peak.{left_of, pairs_below}
use Rattle.mb_order.specs.Rewriting.{Rule}
use Rattle.mb_tables.specs.Vectors.{shares}

-- the left sides of a pair of rules share a symbol
abbrev pub share : List Rule → ℕ × ℕ → Bool
share rules pair = shares (left_of rules pair.0) (left_of rules pair.1)

-- the pairs of numbers before i, j: all of numbers below j, and j with those below i
abbrev pub pairs_until : ℕ → ℕ → List (ℕ × ℕ)
pairs_until i j =
    pairs_below j ++ map (λ k. let pair : ℕ × ℕ = (k, j) in pair) (range_with_len 0 i)

-- so many lines are judged, one for each pair before i, j that shares a symbol; none is wrong
pub record AreMet (c : Certificate) (i j next : ℕ) : Type 0 where
  pub place : next ≡ length (filter (share c.rules) (pairs_until i j))
  pub right : AreRightBefore (join_lines c) next
  pub within : next ≤ length c.joins
  pub few : length c.joins < 2 ^ 40
