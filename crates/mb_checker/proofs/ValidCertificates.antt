-- The joining theorem: a valid certificate's parts are the premises of the joining law. Its joins
-- say that each pair of rules meets, its starts that each cell's two monomials do, and its paths
-- that the moves join the two tables of each margin-free rule. The orders need no premise, and
-- the moves have margins 0, so they are a Markov basis. The same for each law on the way.
use Rattle.std.proofs.Common.{Bool, List, ap, arith, drop, length, subst, sym, true, ℕ, ◌+◌, ◌∙◌, ◌≡◌}
use Rattle.std.proofs.lemmas.Bool.{and_from}
use Rattle.std.specs.List.{range_with_len}
use Rattle.mb_certificate.proofs.LineFaults.{all-at}
use Rattle.mb_certificate.proofs.Walking.{walk-joined}
use Rattle.mb_certificate.specs.Certificate.{AreParts, Certificate, Path}
use Rattle.mb_certificate.specs.Valid.{IsValid, PeakMeets, TracesMeet, Walks, is_free, pair_of}
use Rattle.mb_checker.specs.Premises.{PremisesHold}
use Rattle.mb_matrix.specs.MarkovBasis.{IsMarkovBasis}
use Rattle.mb_order.proofs.OrderLaws.{eliminates, is_order}
use Rattle.mb_order.proofs.PeakLaws.{In-pairs, left-is, sides-are}
use Rattle.mb_order.proofs.WeightLaws.{symbols-fit}
use Rattle.mb_order.specs.MarginFree.{margin_free}
use Rattle.mb_order.specs.Monomial.{Monomial}
use Rattle.mb_order.specs.Order.{monomial_cmp}
use Rattle.mb_order.specs.Peak.{PairsMeet, left_of, pairs_below, right_in, right_of, sides_of}
use Rattle.mb_order.specs.Rewriting.{Meet, Rule}
use Rattle.mb_order.specs.Weight.{symbols}
use Rattle.mb_rules.proofs.ByMoves.{joined}
use Rattle.mb_rules.proofs.LocalConfluence.{critical_pairs}
use Rattle.mb_rules.specs.Elimination.{PathsJoin, StartsMeet}
use Rattle.mb_tables.proofs.ListLaws.{In-filter, In-map_range, In-place, In-range, place-within, some_at}
use Rattle.mb_tables.specs.Lists.{In}
use Rattle.mb_tables.specs.Vectors.{shares}

-- what traces lead to one monomial meets
meet : (rules : List Rule) (first second : List ℕ) (a b : Monomial) →
    TracesMeet rules first a second b → Meet rules a b
meet rules first second a b h = (h.0, (first, h.1), (second, h.2))

module _ (c : Certificate) (h : IsValid c) where
  -- by its joins, the sides of each pair of rules that share a symbol meet
  pairs-meet : PairsMeet c.rules
  pairs-meet i j low high l e f s =
      let pair : ℕ × ℕ = (i, j) in
      let test : ℕ × ℕ → Bool = λ p. shares (left_of c.rules p.0) (left_of c.rules p.1) in
      let passes : test pair ≡ true =
      ap (λ x. shares x (left_of c.rules j)) (left-is c.rules i low e)
      ∙ ap (shares low.0) (left-is c.rules j high f) ∙ s in
      let listed = In-filter test pair (pairs_below (length c.rules))
      (In-pairs (length c.rules) i j l (place-within c.rules j high f)) passes in
      let found = In-map_range pair_of pair c.joins (subst (In pair) (sym h.joins.all) listed) in
      let join = found.0 in
      let place = In-place c.joins join found.1 in
      let meets = all-at (λ join.
      PeakMeets c.matrix c.rules join (sides_of c.rules join.low) (sides_of c.rules join.high))
      c.joins place.0 join h.joins.meet place.1 in
      let first : sides_of c.rules join.low ≡ low =
      ap (λ (p : ℕ × ℕ). sides_of c.rules p.0) (sym found.2) ∙ sides-are c.rules i low e in
      let second : sides_of c.rules join.high ≡ high =
      ap (λ (p : ℕ × ℕ). sides_of c.rules p.1) (sym found.2) ∙ sides-are c.rules j high f in
      let both : PeakMeets c.matrix c.rules join low high =
      subst (λ r. PeakMeets c.matrix c.rules join low r) second
      (subst (λ r. PeakMeets c.matrix c.rules join r (sides_of c.rules join.high)) first meets) in
      meet c.rules join.low_steps join.high_steps _ _ both.1

  -- by its starts, each cell's symbol meets the margins' symbols of its column
  starts-meet : AreParts c → StartsMeet c.matrix.rows c.matrix.columns c.rules
  starts-meet parts j column e =
      let start = some_at c.starts j
      (let p = place-within c.matrix.columns j column e in let q =
      parts.each_cell in omega arith) in
      meet c.rules (start.0).margin_steps (start.0).cell_steps _ _
      (h.starts j column start.0 e start.1)

  -- by its paths, the moves join the two tables of each margin-free rule
  paths-join : PathsJoin c.matrix.rows c.rules c.moves
  paths-join k rule e free =
      let d = c.matrix.rows in
      let sides = sides-are c.rules k rule e in
      let left : left_of c.rules k ≡ rule.0 = left-is c.rules k rule e in
      let right : right_of c.rules k ≡ rule.1 = ap right_in e in
      let passes = and_from (margin_free d (left_of c.rules k)) (margin_free d (right_of c.rules k))
      (ap (margin_free d) left ∙ free.0) (ap (margin_free d) right ∙ free.1) in
      let listed = In-filter (is_free d c.rules) k (range_with_len 0 (length c.rules))
      (In-range 0 (length c.rules) k (omega arith)
      (let p = place-within c.rules k rule e in omega arith)) passes in
      let found = In-map_range (λ (path : Path). path.rule) k c.paths
      (subst (In k) (sym h.paths.all) listed) in
      let path = found.0 in
      let place = In-place c.paths path found.1 in
      let walks = all-at (λ (path : Path). Walks c.moves path.steps
      (drop d (left_of c.rules path.rule)) (drop d (right_of c.rules path.rule)))
      c.paths place.0 path h.paths.lead place.1 in
      let from : left_of c.rules path.rule ≡ rule.0 = ap (left_of c.rules) (sym found.2) ∙ left in
      let to : right_of c.rules path.rule ≡ rule.1 = ap (right_of c.rules) (sym found.2) ∙ right in
      walk-joined c.moves path.steps (drop d rule.0) (drop d rule.1)
      (subst (λ m. Walks c.moves path.steps (drop d rule.0) (drop d m)) to
      (subst (λ m. Walks c.moves path.steps (drop d m) (drop d (right_of c.rules path.rule))) from
      walks))

  -- the moves of a valid certificate are a Markov basis
  pub valid-markov : AreParts c → IsMarkovBasis c.matrix c.moves
  valid-markov parts =
      let d = c.matrix.rows in
      let columns = c.matrix.columns in record {
        kept = h.moves;
        joins = joined d columns (monomial_cmp c.order d) c.rules c.moves h.rules paths-join
            parts.design.each (is_order c.order d (d + length columns))
            (eliminates c.order d (d + length columns)) pairs-meet (starts-meet parts);
      }

  -- and its parts meet the premises of each law of rewriting
  pub premises-hold : AreParts c →
      PremisesHold c.order c.matrix.rows c.matrix.columns c.rules c.moves
  premises-hold parts =
      let d = c.matrix.rows in
      let columns = c.matrix.columns in
      let compare = monomial_cmp c.order d in
      let fit = parts.design.each in
      let order = is_order c.order d (d + length columns) in
      let free = eliminates c.order d (d + length columns) in
      let valid = h.rules in
      let starts = starts-meet parts in
      let local = critical_pairs d (symbols d columns) compare c.rules valid pairs-meet in
      let by_all = is_order c.order d (length (symbols d columns)) in record {
        critical_pairs = (valid, pairs-meet);
        newman = (symbols-fit d columns fit, by_all, valid, local);
        elimination = (fit, order, free, valid, pairs-meet, starts);
        paths = (fit, order, free, valid, pairs-meet, starts, paths-join);
        joining = (fit, valid, pairs-meet, starts, paths-join);
        normal_forms = (fit, valid);
      }
