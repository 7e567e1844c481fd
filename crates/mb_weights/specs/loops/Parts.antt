-- Weights that are summed part by part.
use Rattle.std.specs.List.{flat_map}
use Rattle.std.specs.Option.{SomeIff}
use Rattle.std.specs.Prelude.{List, Option, Vec, cond, length, nat_le, take, ℕ, ◌+◌, ◌<◌, ◌^◌}
use Rattle.std.specs.declared.alloc.Global.{Global}
use Rattle.mb_matrix.specs.Measure.{Weighting}
use Rattle.mb_rings.specs.Share.{share_of, share_start}
use Rattle.mb_weights.specs.PValue.{at_most, whole_of}
use Rattle.mb_weights.specs.declared.sums.Sums.{Sums}

-- the two sums over some tables: the weights of those that weigh at most w, and of all
abbrev pub sums_of : Weighting → ℕ → List (List ℕ) → Sums
sums_of measure w tables =
    record {
      below = whole_of measure (at_most measure w tables);
      whole = whole_of measure tables;
    }

-- the two sums over a single table of weight v
abbrev pub single : ℕ → ℕ → Sums
single w v = record { below = cond (nat_le v w) v 0; whole = v }

-- two pairs of sums, added up
abbrev pub both : Sums → Sums → Sums
both a b = record { below = a.below + b.below; whole = a.whole + b.whole }

-- the two sums over some tables, or none exactly where that over all is 2^128 or more
abbrev pub AreSumsOf : Weighting → ℕ → List (List ℕ) → Option Sums → Type 0
AreSumsOf measure w tables sums =
    SomeIff sums (whole_of measure tables < 2 ^ 128) (sums_of measure w tables)

-- the tables of the share number s of each ring, among k shares
abbrev pub shares_in : List (Vec (List ℕ) Global) → ℕ → ℕ → List (List ℕ)
shares_in rings s k = flat_map (λ ring. share_of ring.items s k) rings

-- the tables of the shares of each ring before number s, among k shares
abbrev pub shares_before : List (Vec (List ℕ) Global) → ℕ → ℕ → List (List ℕ)
shares_before rings s k =
    flat_map (λ ring. take (share_start s (length ring.items) k) ring.items) rings
