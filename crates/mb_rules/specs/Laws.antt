-- The laws of rewriting, from critical pairs to joined tables.
use Rattle.std.specs.Prelude.{List, length, ℕ, ℤ, ◌+◌, ◌≡◌}
use Rattle.std.specs.declared.cmp.Ordering.{Ordering}
use Rattle.mb_matrix.specs.Fiber.{AreColumns, margins}
use Rattle.mb_order.specs.MarginFree.{Eliminates, of_table}
use Rattle.mb_order.specs.Monomial.{Monomial}
use Rattle.mb_order.specs.Order.{IsOrder, monomial_cmp}
use Rattle.mb_order.specs.Peak.{PairsMeet}
use Rattle.mb_order.specs.Rewriting.{AreValid, IsConfluent, IsLocal, Leads, Rule}
use Rattle.mb_order.specs.Weight.{symbols}
use Rattle.mb_order.specs.declared.order.Order.{Order}
use Rattle.mb_rules.specs.Elimination.{FreeLeads, PathsJoin, StartsMeet}
use Rattle.mb_rules.specs.NormalForm.{IsIrreducible, NormalBy}
use Rattle.mb_tables.specs.Chain.{Joined}

-- critical pairs (Buchberger's criterion): if each pair of overlapping rules has its two sides
-- joined, rewriting is locally confluent
abbrev pub CriticalPairs : Type 0
CriticalPairs =
    (d : ℕ) (columns : List (List ℕ)) (compare : Monomial → Monomial → Ordering)
    (rules : List Rule) →
    AreValid d columns compare rules → PairsMeet rules → IsLocal rules

-- Newman's lemma (Newman 1942): local confluence is confluence, since each step goes down within
-- a class, and a class is finite
abbrev pub Newman : Type 0
Newman =
    (d : ℕ) (columns : List (List ℕ)) (compare : Monomial → Monomial → Ordering)
    (rules : List Rule) →
    AreColumns d columns → IsOrder (length columns) compare →
    AreValid d columns compare rules → IsLocal rules → IsConfluent (length columns) rules

-- elimination: tables of equal margins have monomials with a common reduct, and both ways to it are
-- free of margins' symbols
abbrev pub Elimination : Type 0
Elimination =
    (d : ℕ) (columns : List (List ℕ)) (compare : Monomial → Monomial → Ordering)
    (rules : List Rule) →
    AreColumns d columns → IsOrder (d + length columns) compare →
    Eliminates d (d + length columns) compare → AreValid d (symbols d columns) compare rules →
    PairsMeet rules → StartsMeet d columns rules →
    (u v : List ℕ) → length u ≡ length columns → length v ≡ length columns →
    margins d columns u ≡ margins d columns v →
    (c : Monomial) × FreeLeads d rules (of_table d u) c × FreeLeads d rules (of_table d v) c

-- paths: where further the moves join the two tables of each margin-free rule, they join any two
-- tables of equal margins
abbrev pub Paths : Type 0
Paths =
    (d : ℕ) (columns : List (List ℕ)) (compare : Monomial → Monomial → Ordering)
    (rules : List Rule) (moves : List (List ℤ)) →
    AreColumns d columns → IsOrder (d + length columns) compare →
    Eliminates d (d + length columns) compare → AreValid d (symbols d columns) compare rules →
    PairsMeet rules → StartsMeet d columns rules → PathsJoin d rules moves →
    (u v : List ℕ) → length u ≡ length columns → length v ≡ length columns →
    margins d columns u ≡ margins d columns v → Joined moves u v

-- the same for the two orders, which need no premise
abbrev pub Joining : Type 0
Joining =
    (order : Order) (d : ℕ) (columns : List (List ℕ)) (rules : List Rule)
    (moves : List (List ℤ)) →
    AreColumns d columns → AreValid d (symbols d columns) (monomial_cmp order d) rules →
    PairsMeet rules → StartsMeet d columns rules → PathsJoin d rules moves →
    (u v : List ℕ) → length u ≡ length columns → length v ≡ length columns →
    margins d columns u ≡ margins d columns v → Joined moves u v

-- each monomial has one normal form, by one trace; it leads there, and no rule fits there
abbrev pub NormalForms : Type 0
NormalForms =
    (order : Order) (d : ℕ) (columns : List (List ℕ)) (rules : List Rule) →
    AreColumns d columns → AreValid d (symbols d columns) (monomial_cmp order d) rules →
    (m : Monomial) → length m ≡ length (symbols d columns) →
    ((trace : List ℕ) × (p : Monomial) × NormalBy rules trace m p)
    × ((s t : List ℕ) (p q : Monomial) → NormalBy rules s m p → NormalBy rules t m q →
    (s ≡ t) × (p ≡ q))
    × ((t : List ℕ) (p : Monomial) → NormalBy rules t m p →
    Leads rules m p × IsIrreducible rules p)
