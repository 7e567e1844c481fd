-- Rules without symbols of margins, and what they lead to (elimination; Cox, Little and O'Shea,
-- chapter 3; Diaconis and Sturmfels 1998, section 3).
use Rattle.std.specs.Prelude.{List, Some, [], drop, length, slice_get, true, ℕ, ℤ, ◌++◌, ◌∷◌, ◌≡◌}
use Rattle.mb_order.specs.MarginFree.{margin_free, of_table}
use Rattle.mb_order.specs.Monomial.{Monomial}
use Rattle.mb_order.specs.Rewriting.{Meet, Rule, Step}
use Rattle.mb_tables.specs.Chain.{Joined}
use Rattle.mb_tables.specs.Vectors.{unit, zeros}

-- neither side has a symbol of the d margins
abbrev pub IsFreeRule : ℕ → Rule → Type 0
IsFreeRule d rule = (margin_free d rule.0 ≡ true) × (margin_free d rule.1 ≡ true)

-- m leads to p by the rules with these numbers, all of them margin-free, over margin-free
-- monomials alone
unfoldable pub FreeLeadsBy : ℕ → List Rule → List ℕ → Monomial → Monomial → Type 0
FreeLeadsBy d rules [] m p = (margin_free d m ≡ true) × (m ≡ p)
FreeLeadsBy d rules (k ∷ trace) m p =
    (next : Monomial) × (margin_free d m ≡ true)
    × ((s : Step rules k m next) × IsFreeRule d s.0) × FreeLeadsBy d rules trace next p

-- it does, by some list of numbers
abbrev pub FreeLeads : ℕ → List Rule → Monomial → Monomial → Type 0
FreeLeads d rules m p = (trace : List ℕ) × FreeLeadsBy d rules trace m p

-- each cell's symbol and the margins' symbols of its column lead to one monomial
abbrev pub StartsMeet : ℕ → List (List ℕ) → List Rule → Type 0
StartsMeet d columns rules =
    (j : ℕ) (column : List ℕ) → slice_get columns j ≡ Some column →
    Meet rules (column ++ zeros (length columns)) (of_table d (unit (length columns) j))

-- the moves join the two tables of each margin-free rule
abbrev pub PathsJoin : ℕ → List Rule → List (List ℤ) → Type 0
PathsJoin d rules moves =
    (k : ℕ) (rule : Rule) → slice_get rules k ≡ Some rule → IsFreeRule d rule →
    Joined moves (drop d rule.0) (drop d rule.1)
