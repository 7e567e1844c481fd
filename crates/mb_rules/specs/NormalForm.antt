-- Normal forms: what is left when no rule fits any more (Cox, Little and O'Shea, chapter 2,
-- section 3; the first rule that fits is taken, so that there is one trace).
use Rattle.std.specs.List.{position_or_len}
use Rattle.std.specs.Prelude.{List, [], length, ℕ, ◌∷◌, ◌≡◌}
use Rattle.mb_order.specs.Monomial.{Monomial}
use Rattle.mb_order.specs.Rewriting.{Rule, Step}
use Rattle.mb_tables.specs.Vectors.{within}

-- rule number k is the first whose left side divides the monomial; there is none where k is the
-- number of rules
abbrev pub IsFirst : List Rule → ℕ → Monomial → Type 0
IsFirst rules k m = position_or_len (λ (rule : Rule). within rule.0 m) rules ≡ k

-- no rule takes it anywhere
abbrev pub IsIrreducible : List Rule → Monomial → Type 0
IsIrreducible rules m = (k : ℕ) (p : Monomial) → Step rules k m p → ⊥

-- the first rule that fits, again and again, with these numbers in turn, takes m to p, and then
-- none fits
unfoldable pub NormalBy : List Rule → List ℕ → Monomial → Monomial → Type 0
NormalBy rules [] m p = IsFirst rules (length rules) m × (m ≡ p)
NormalBy rules (k ∷ trace) m p =
    (next : Monomial) × IsFirst rules k m × Step rules k m next × NormalBy rules trace next p
