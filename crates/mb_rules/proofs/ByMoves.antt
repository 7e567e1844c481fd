-- Paths. Each step by a margin-free rule is a chain of moves, with what the rule's left side
-- leaves of the monomial added to each of its tables.
use Rattle.std.proofs.Common.{List, [], ap, arith, drop, length, length-append, length-drop, subst, sym, ℕ, ℤ, ◌+◌, ◌∙◌, ◌∷◌, ◌≡◌, ◌≤◌}
use Rattle.std.specs.declared.cmp.Ordering.{Ordering}
use Rattle.mb_matrix.specs.Fiber.{AreColumns, margins}
use Rattle.mb_order.proofs.WeightLaws.{symbols-length}
use Rattle.mb_order.specs.MarginFree.{Eliminates, of_table}
use Rattle.mb_order.specs.Monomial.{Monomial}
use Rattle.mb_order.specs.Order.{IsOrder}
use Rattle.mb_order.specs.Peak.{PairsMeet}
use Rattle.mb_order.specs.Rewriting.{AreValid, Rule}
use Rattle.mb_order.specs.Weight.{symbols}
use Rattle.mb_rules.proofs.WithoutMargins.{elimination}
use Rattle.mb_rules.specs.Elimination.{FreeLeadsBy, PathsJoin, StartsMeet}
use Rattle.mb_tables.proofs.JoinedTables.{chain-plus, chain_swap, chain_then}
use Rattle.mb_tables.proofs.VectorLaws.{drop-plus, drop-zeros, length-plus, length-zeros}
use Rattle.mb_tables.specs.Chain.{Chain, Joined}
use Rattle.mb_tables.specs.Vectors.{plus, zeros}

module _ (d : ℕ) (columns : List (List ℕ)) (compare : Monomial → Monomial →
    Ordering) (rules : List Rule) (moves : List (List ℤ))
    (valid : AreValid d (symbols d columns) compare rules) (paths : PathsJoin d rules moves) where
  -- the tables of monomials that lead to each other without margins are joined
  free_joined : (trace : List ℕ) (m p : Monomial) → length m ≡ d + length columns →
      FreeLeadsBy d rules trace m p → Joined moves (drop d m) (drop d p)
  unfolding FreeLeadsBy Chain
  free_joined [] m p w h = ([], ap (drop d) h.1)
  free_joined (k ∷ trace) m p w h =
      let next = h.0 in
      let s = (h.2).0 in
      let rule = s.0 in
      let v = valid k rule s.2 in
      let wide = symbols-length d columns in
      let a = v.left_wide in let b = v.right_wide in
      let e = ap length s.3 ∙ length-plus rule.0 s.1 in
      let f = ap length s.4 ∙ length-plus rule.1 s.1 in
      let rest = free_joined trace next p (omega arith) h.3 in
      let path = paths k rule s.2 (h.2).1 in
      let room : length (drop d s.1) ≤ length (drop d rule.0) = simp length-drop (omega arith) in
      let step = chain-plus moves (drop d rule.0) path.0 (drop d rule.1) (drop d s.1) room path.1 in
      let from : plus (drop d rule.0) (drop d s.1) ≡ drop d m =
      sym (ap (drop d) s.3 ∙ drop-plus d rule.0 s.1) in
      let to : plus (drop d rule.1) (drop d s.1) ≡ drop d next =
      sym (ap (drop d) s.4 ∙ drop-plus d rule.1 s.1) in
      let placed : Joined moves (drop d m) (drop d next) =
      subst (λ x. Joined moves (drop d m) x) to
      (subst (λ x. Joined moves x (plus (drop d rule.1) (drop d s.1))) from step) in
      chain_then moves (drop d m) placed.0 (drop d next) (drop d p) placed.1 rest

  -- tables of equal margins are joined
  pub joined : AreColumns d columns → IsOrder (d + length columns) compare →
      Eliminates d (d + length columns) compare → PairsMeet rules → StartsMeet d columns rules →
      (u v : List ℕ) → length u ≡ length columns → length v ≡ length columns →
      margins d columns u ≡ margins d columns v → Joined moves u v
  joined fit order eliminates pairs starts u v lu lv e =
      let met =
      elimination d columns compare rules fit order eliminates valid pairs starts u v lu lv e in
      let wide : (w : List ℕ) → length w ≡ length columns →
      length (of_table d w) ≡ d + length columns =
      λ w l. length-append (zeros d) w ∙ (let a = length-zeros d in omega arith) in
      let first = free_joined (met.1).0 (of_table d u) met.0 (wide u lu) (met.1).1 in
      let second = free_joined (met.2).0 (of_table d v) met.0 (wide v lv) (met.2).1 in
      let back = chain_swap moves (drop d (of_table d v)) second.0 (drop d met.0) second.1 in
      let whole =
      chain_then moves (drop d (of_table d u)) first.0 (drop d met.0)
      (drop d (of_table d v)) first.1 back in
      subst (λ x. Joined moves u x) (drop-zeros d v)
      (subst (λ x. Joined moves x (drop d (of_table d v))) (drop-zeros d u) whole)
