-- The reduced basis: the reduced Gröbner basis of the toric ideal (Buchberger 1965; Sturmfels
-- 1996, chapter 4), by classes of equal weight, with no pairs and no run.
use Rattle.std.specs.Prelude.{List, Some, [], length, slice_get, ℕ, ◌<◌, ◌∷◌, ◌≡◌}
use Rattle.std.specs.declared.cmp.Ordering.TheVariants.{Less}
use Rattle.std.specs.declared.cmp.Ordering.{Ordering}
use Rattle.mb_matrix.specs.Fiber.{margins}
use Rattle.mb_order.specs.Monomial.{Monomial}
use Rattle.mb_order.specs.Rewriting.{Leads, Rule}
use Rattle.mb_rules.specs.Classes.{IsLeast}
use Rattle.mb_rules.specs.NormalForm.{IsIrreducible}
use Rattle.mb_tables.specs.Lists.{In}
use Rattle.mb_tables.specs.Vectors.{plus, unit}

-- a corner (a minimal leading monomial): it is not the least of its class, and each monomial got
-- by lowering one exponent by one is the least of its own
pub record IsCorner
    (d : ℕ) (columns : List (List ℕ)) (compare : Monomial → Monomial → Ordering)
    (m : Monomial) : Type 0 where
  -- there is a column for each symbol
  pub wide : length m ≡ length columns
  pub not_least : IsLeast d columns compare m → ⊥
  pub lowered : (k : ℕ) (p : Monomial) → k < length columns → length p ≡ length columns →
      m ≡ plus p (unit (length columns) k) → IsLeast d columns compare p

-- a rule from a corner to the least of its class
pub record IsReducedRule
    (d : ℕ) (columns : List (List ℕ)) (compare : Monomial → Monomial → Ordering)
    (rule : Rule) : Type 0 where
  pub corner : IsCorner d columns compare rule.0
  pub right_wide : length rule.1 ≡ length columns
  pub equal_weight : margins d columns rule.0 ≡ margins d columns rule.1
  pub right_least : IsLeast d columns compare rule.1

-- the rules of all corners, and no others
pub record IsReduced
    (d : ℕ) (columns : List (List ℕ)) (compare : Monomial → Monomial → Ordering)
    (rules : List Rule) : Type 0 where
  pub sound : (k : ℕ) (rule : Rule) → slice_get rules k ≡ Some rule →
      IsReducedRule d columns compare rule
  pub all : (l : Monomial) → IsCorner d columns compare l →
      (k : ℕ) × (r : Monomial) × (slice_get rules k ≡ Some (l, r))

-- the left sides ascend
unfoldable pub LeftsAscend : (Monomial → Monomial → Ordering) → List Rule → Type 0
LeftsAscend compare [] = Unit {0}
LeftsAscend compare (rule ∷ rules) =
    ((later : Rule) → In later rules → compare rule.0 later.0 ≡ Less) × LeftsAscend compare rules

-- it is a left side, and no left side divides it but itself
abbrev pub IsMinimalLeft : List Rule → Monomial → Type 0
IsMinimalLeft rules l =
    ((k : ℕ) × (r : Monomial) × (slice_get rules k ≡ Some (l, r)))
    × ((k : ℕ) (rule : Rule) (rest : Monomial) →
    slice_get rules k ≡ Some rule → length rest ≡ length l → l ≡ plus rule.0 rest → rule.0 ≡ l)

-- of each minimal left side one rule, whose right side it leads to and no rule fits: what
-- reducing a basis gives
pub record IsReduction (rules : List Rule) (kept : List Rule) : Type 0 where
  pub all : (l : Monomial) → IsMinimalLeft rules l →
      (k : ℕ) × (r : Monomial) × (slice_get kept k ≡ Some (l, r))
  pub minimal : (k : ℕ) (rule : Rule) → slice_get kept k ≡ Some rule →
      IsMinimalLeft rules rule.0
  pub leads : (k : ℕ) (rule : Rule) → slice_get kept k ≡ Some rule → Leads rules rule.0 rule.1
  pub ends : (k : ℕ) (rule : Rule) → slice_get kept k ≡ Some rule → IsIrreducible rules rule.1
