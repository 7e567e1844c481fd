-- The parts of a certificate on their way.
use Rattle.std.specs.List.{filter, range_with_len}
use Rattle.std.specs.Prelude.{All, List, map, ℕ, ◌≡◌}
use Rattle.mb_certificate.specs.Certificate.{IsJoin, Join}
use Rattle.mb_certificate.specs.Valid.{is_free, pair_of}
use Rattle.mb_completion.specs.Made.{IsNormalJoin}
use Rattle.mb_completion.specs.loops.Going.{pairs_before}
use Rattle.mb_order.specs.Rewriting.{Rule}

-- the numbers of the margin-free ones among the first k rules
abbrev pub free_below : ℕ → List Rule → ℕ → List ℕ
free_below d rules k = filter (is_free d rules) (range_with_len 0 k)

-- the joins of the pairs that take their turn before the pair i, j
pub record AreJoining (rules : List Rule) (i j : ℕ) (joins : List Join) : Type 0 where
  pub all : map pair_of joins ≡ pairs_before rules i j
  pub normal : All (IsNormalJoin rules) joins
  pub sound : All IsJoin joins
