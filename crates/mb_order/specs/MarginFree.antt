-- Monomials without symbols of margins.
use Rattle.std.specs.Prelude.{Bool, List, length, take, true, ℕ, ◌++◌, ◌≡◌}
use Rattle.std.specs.declared.cmp.Ordering.TheVariants.{Less}
use Rattle.std.specs.declared.cmp.Ordering.{Ordering}
use Rattle.mb_order.specs.Monomial.{Monomial}
use Rattle.mb_tables.specs.Vectors.{all_zero, zeros}

-- none of the d margins' symbols occurs
abbrev pub margin_free : ℕ → Monomial → Bool
margin_free d m = all_zero (take d m)

-- the monomial of a table: its counts are the exponents of the cells' symbols
abbrev pub of_table : ℕ → List ℕ → Monomial
of_table d u = zeros d ++ u

-- an elimination order: what is below a margin-free monomial is margin-free (Cox, Little and
-- O'Shea, chapter 3, section 1)
abbrev pub Eliminates : ℕ → ℕ → (Monomial → Monomial → Ordering) → Type 0
Eliminates d width compare =
    (a b : Monomial) → length a ≡ width → length b ≡ width →
    compare a b ≡ Less → margin_free d b ≡ true → margin_free d a ≡ true
