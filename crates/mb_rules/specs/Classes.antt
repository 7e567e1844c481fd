-- Classes of monomials of equal weight (fibers of the multidegree), and their least members
-- (standard monomials; Sturmfels 1996, chapter 4).
use Rattle.std.specs.Prelude.{List, length, ℕ, ◌≡◌}
use Rattle.std.specs.declared.cmp.Ordering.TheVariants.{Less}
use Rattle.std.specs.declared.cmp.Ordering.{Ordering}
use Rattle.mb_matrix.specs.Fiber.{margins}
use Rattle.mb_order.specs.Monomial.{Monomial}
use Rattle.mb_order.specs.Rewriting.{Leads, Meet, Rule}

-- no monomial of equal weight is below it
abbrev pub IsLeast : ℕ → List (List ℕ) → (Monomial → Monomial → Ordering) → Monomial → Type 0
IsLeast d columns compare m =
    (p : Monomial) → length p ≡ length columns → margins d columns p ≡ margins d columns m →
    compare p m ≡ Less → ⊥

-- monomials of equal weight lead to one monomial
abbrev pub ClassesMeet : ℕ → List (List ℕ) → List Rule → Type 0
ClassesMeet d columns rules =
    (a b : Monomial) → length a ≡ length columns → length b ≡ length columns →
    margins d columns a ≡ margins d columns b → Meet rules a b

-- the rules lead each monomial to the least of its class
abbrev pub ReachLeast :
    ℕ → List (List ℕ) → (Monomial → Monomial → Ordering) → List Rule → Type 0
ReachLeast d columns compare rules =
    (m p : Monomial) → length m ≡ length columns → length p ≡ length columns →
    margins d columns p ≡ margins d columns m → IsLeast d columns compare p → Leads rules m p
