-- The exact p-value of a contingency table, as a fraction of summed weights.
use Rattle.std.specs.List.{filter, flat_map, sum_by}
use Rattle.std.specs.Prelude.{All, List, Vec, length, nat_le, ℕ, ◌<◌, ◌^◌}
use Rattle.std.specs.declared.alloc.Global.{Global}
use Rattle.mb_matrix.specs.Matrix.{Design, fiber_of}
use Rattle.mb_matrix.specs.Measure.{Weighting}
use Rattle.mb_weights.specs.Weight.{weight_of}

-- the summed weight of some tables: over a whole fiber, the normalising constant of the
-- conditional distribution
abbrev pub whole_of : Weighting → List (List ℕ) → ℕ
whole_of measure tables = sum_by (weight_of measure) tables

-- the tables whose weight is at most w
abbrev pub at_most : Weighting → ℕ → List (List ℕ) → List (List ℕ)
at_most measure w tables = filter (λ v. nat_le (weight_of measure v) w) tables

-- the tables that are no likelier than an observed one; those that are as likely count
abbrev pub no_likelier : Weighting → List ℕ → List (List ℕ) → List (List ℕ)
no_likelier measure u tables = at_most measure (weight_of measure u) tables

-- the summed weight of the tables that are no likelier than an observed one
abbrev pub below_of : Weighting → List ℕ → List (List ℕ) → ℕ
below_of measure u tables = whole_of measure (no_likelier measure u tables)

-- a fraction that is not reduced
pub record Fraction : Type 0 where
  pub below : ℕ
  pub whole : ℕ

-- the exact p-value of an observed table (Fisher 1935; Freeman and Halton 1951): the summed
-- weight of the tables of its fiber that are no likelier than it, over that of the whole fiber
abbrev pub exact_p_value : Design → Weighting → List ℕ → Fraction
exact_p_value matrix measure u =
    record {
      below = below_of measure u (fiber_of matrix u);
      whole = whole_of measure (fiber_of matrix u);
    }

-- all tables of some rings, ring after ring
abbrev pub tables_in : List (Vec (List ℕ) Global) → List (List ℕ)
tables_in rings = flat_map (λ ring. ring.items) rings

-- each ring has fewer than 2^32 tables
abbrev pub AreSmall : List (Vec (List ℕ) Global) → Type 0
AreSmall rings = All (λ (ring : Vec (List ℕ) Global). length ring.items < 2 ^ 32) rings
