-- The orders of monomials (Cox, Little and O'Shea, chapter 2, section 2): margins first, which
-- makes them elimination orders for the margins' symbols.
use Rattle.std.specs.Cmp.Lexicographic.{slice_cmp}
use Rattle.std.specs.Cmp.{IsTotalOrder}
use Rattle.std.specs.Ordering.{nat_cmp, ordering_then}
use Rattle.std.specs.Prelude.{List, drop, length, reverse, sum, take, ℕ, ◌≡◌}
use Rattle.std.specs.declared.cmp.Ordering.TheVariants.{Equal}
use Rattle.std.specs.declared.cmp.Ordering.{Ordering}
use Rattle.mb_order.specs.Monomial.{Monomial}
use Rattle.mb_order.specs.declared.order.Order.TheVariants.{Grevlex, Lex}
use Rattle.mb_order.specs.declared.order.Order.{Order}
use Rattle.mb_tables.specs.Vectors.{plus}

-- lexicographic: the first exponent that differs decides, and the larger makes the larger
abbrev pub lexicographic : List ℕ → List ℕ → Ordering
lexicographic a b = slice_cmp nat_cmp a b

-- graded reverse lexicographic: the degree decides, and then the last exponent that differs,
-- of which the smaller makes the larger
abbrev pub graded : List ℕ → List ℕ → Ordering
graded a b = ordering_then (nat_cmp (sum a) (sum b)) (slice_cmp nat_cmp (reverse b) (reverse a))

-- the order of the cells' exponents
abbrev pub cells_cmp : Order → List ℕ → List ℕ → Ordering
cells_cmp Lex a b = lexicographic a b
cells_cmp Grevlex a b = graded a b

-- the exponents of the d margins decide, graded reverse lexicographically, and where these are
-- equal, those of the cells
unfoldable pub monomial_cmp : Order → ℕ → Monomial → Monomial → Ordering
monomial_cmp order d a b =
    ordering_then (graded (take d a) (take d b)) (cells_cmp order (drop d a) (drop d b))

-- a monomial order: a total order of monomials, which products keep among those of one width
pub record IsOrder (width : ℕ) (compare : Monomial → Monomial → Ordering) : Type 0 where
  pub total : IsTotalOrder compare
  pub definite : (a b : Monomial) → length a ≡ width → length b ≡ width →
      compare a b ≡ Equal → a ≡ b
  pub added : (a b rest : Monomial) →
      length a ≡ width → length b ≡ width → length rest ≡ width →
      compare (plus a rest) (plus b rest) ≡ compare a b
