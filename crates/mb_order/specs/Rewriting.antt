-- Rewriting by rules: oriented binomials of the toric ideal, and reduction by them (Cox, Little
-- and O'Shea, chapter 2; Baader and Nipkow 1998 for the words of rewriting).
use Rattle.std.specs.Prelude.{List, Some, [], length, slice_get, ℕ, ◌∷◌, ◌≡◌}
use Rattle.std.specs.declared.cmp.Ordering.TheVariants.{Greater}
use Rattle.std.specs.declared.cmp.Ordering.{Ordering}
use Rattle.mb_matrix.specs.Fiber.{margins}
use Rattle.mb_order.specs.Monomial.{Monomial}
use Rattle.mb_tables.specs.Vectors.{minus, plus}

-- a rule: its left side goes to its right side
abbrev pub Rule : Type 0
Rule = Monomial × Monomial

-- rule number k takes m to p: m is the left side times a cofactor, and p the right side times it
abbrev pub Step : List Rule → ℕ → Monomial → Monomial → Type 0
Step rules k m p =
    (rule : Rule) × (rest : Monomial) × (slice_get rules k ≡ Some rule)
    × (m ≡ plus rule.0 rest) × (p ≡ plus rule.1 rest)

-- what a rule makes of a monomial that its left side divides
abbrev pub made : Rule → Monomial → Monomial
made rule m = plus rule.1 (minus m rule.0)

-- the rules with these numbers, one after the other, take m to p
unfoldable pub LeadsBy : List Rule → List ℕ → Monomial → Monomial → Type 0
LeadsBy rules [] m p = m ≡ p
LeadsBy rules (k ∷ trace) m p =
    (next : Monomial) × Step rules k m next × LeadsBy rules trace next p

-- m leads to p, by some list of rule numbers
abbrev pub Leads : List Rule → Monomial → Monomial → Type 0
Leads rules m p = (trace : List ℕ) × LeadsBy rules trace m p

-- both lead to one monomial (they are joinable)
abbrev pub Meet : List Rule → Monomial → Monomial → Type 0
Meet rules a b = (c : Monomial) × Leads rules a c × Leads rules b c

-- a rule of monomials as wide as there are columns, whose sides have equal weight, and whose
-- left side is the larger
pub record IsValid
    (d : ℕ) (columns : List (List ℕ)) (compare : Monomial → Monomial → Ordering)
    (rule : Rule) : Type 0 where
  pub left_wide : length rule.0 ≡ length columns
  pub right_wide : length rule.1 ≡ length columns
  pub equal_weight : margins d columns rule.0 ≡ margins d columns rule.1
  pub down : compare rule.0 rule.1 ≡ Greater

-- each rule is one
abbrev pub AreValid :
    ℕ → List (List ℕ) → (Monomial → Monomial → Ordering) → List Rule → Type 0
AreValid d columns compare rules =
    (k : ℕ) (rule : Rule) → slice_get rules k ≡ Some rule → IsValid d columns compare rule

-- local confluence: two monomials to which one goes in one step lead to one monomial
abbrev pub IsLocal : List Rule → Type 0
IsLocal rules =
    (m a b : Monomial) (i j : ℕ) → Step rules i m a → Step rules j m b → Meet rules a b

-- confluence: two monomials to which one monomial leads lead to one monomial
abbrev pub IsConfluent : ℕ → List Rule → Type 0
IsConfluent width rules =
    (m a b : Monomial) → length m ≡ width → Leads rules m a → Leads rules m b → Meet rules a b
