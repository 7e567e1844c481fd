-- What the laws of rewriting ask, and what they then speak of.
use Rattle.std.specs.Prelude.{List, length, ℕ, ℤ, ◌+◌, ◌≡◌, ◌≢◌}
use Rattle.mb_certificate.specs.Certificate.{Certificate}
use Rattle.mb_matrix.specs.Fiber.{AreColumns, margins}
use Rattle.mb_order.specs.MarginFree.{Eliminates}
use Rattle.mb_order.specs.Monomial.{Monomial}
use Rattle.mb_order.specs.Order.{IsOrder, monomial_cmp}
use Rattle.mb_order.specs.Peak.{PairsMeet}
use Rattle.mb_order.specs.Rewriting.{AreValid, IsLocal, Rule, Step}
use Rattle.mb_order.specs.Weight.{symbols, symbols_of}
use Rattle.mb_order.specs.declared.order.Order.{Order}
use Rattle.mb_rules.specs.Elimination.{PathsJoin, StartsMeet}

-- the premises of each law of `mb_rules`, one by one in its own order. The first two are taken over
-- the columns of all symbols, (identity | A)
pub record PremisesHold
    (order : Order) (d : ℕ) (columns : List (List ℕ)) (rules : List Rule)
    (moves : List (List ℤ)) : Type 0 where
  pub critical_pairs : AreValid d (symbols d columns) (monomial_cmp order d) rules
      × PairsMeet rules
  pub newman : AreColumns d (symbols d columns)
      × IsOrder (length (symbols d columns)) (monomial_cmp order d)
      × AreValid d (symbols d columns) (monomial_cmp order d) rules
      × IsLocal rules
  pub elimination : AreColumns d columns
      × IsOrder (d + length columns) (monomial_cmp order d)
      × Eliminates d (d + length columns) (monomial_cmp order d)
      × AreValid d (symbols d columns) (monomial_cmp order d) rules
      × PairsMeet rules
      × StartsMeet d columns rules
  pub paths : AreColumns d columns
      × IsOrder (d + length columns) (monomial_cmp order d)
      × Eliminates d (d + length columns) (monomial_cmp order d)
      × AreValid d (symbols d columns) (monomial_cmp order d) rules
      × PairsMeet rules
      × StartsMeet d columns rules
      × PathsJoin d rules moves
  pub joining : AreColumns d columns
      × AreValid d (symbols d columns) (monomial_cmp order d) rules
      × PairsMeet rules
      × StartsMeet d columns rules
      × PathsJoin d rules moves
  pub normal_forms : AreColumns d columns
      × AreValid d (symbols d columns) (monomial_cmp order d) rules

-- a fork: two rules take a monomial of so many symbols to two different ones
pub record IsFork (width : ℕ) (rules : List Rule) (m a b : Monomial) : Type 0 where
  pub wide : length m ≡ width
  pub first : (i : ℕ) × Step rules i m a
  pub second : (j : ℕ) × Step rules j m b
  pub differ : a ≢ b

-- two different tables of equal margins
pub record AreTwoOfAFiber (d : ℕ) (columns : List (List ℕ)) (u v : List ℕ) : Type 0 where
  pub first_wide : length u ≡ length columns
  pub second_wide : length v ≡ length columns
  pub equal_margins : margins d columns u ≡ margins d columns v
  pub differ : u ≢ v

-- the parts of a certificate meet the premises; it has a fork, of which confluence speaks, and
-- two tables, which the moves then join
pub record IsInstance (c : Certificate) (m a b : Monomial) (u v : List ℕ) : Type 0 where
  pub premises : PremisesHold c.order c.matrix.rows c.matrix.columns c.rules c.moves
  pub fork : IsFork (length (symbols_of c.matrix)) c.rules m a b
  pub tables : AreTwoOfAFiber c.matrix.rows c.matrix.columns u v
