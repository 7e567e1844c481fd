-- The rules of a finished run make a valid certificate: its starts and joins list the traces by
-- which the sides meet, and each path subtracts its rule's own move.
use Rattle.std.proofs.Common.{List, Some, [], ap, arith, drop, inr, length, map, refl, slice_get, subst, suc, sym, true, zero, ℕ, ℤ, ◌+◌, ◌∙◌, ◌∷◌, ◌≡◌}
use Rattle.std.proofs.lemmas.Bool.{and_from}
use Rattle.std.proofs.lemmas.List.Elements.{filter_passes}
use Rattle.std.proofs.lemmas.Option.{slice_get-map}
use Rattle.std.specs.List.{range_with_len}
use Rattle.std.specs.Option.{option_map}
use Rattle.mb_certificate.proofs.LineFaults.{all-at, at-all}
use Rattle.mb_certificate.specs.Certificate.{Certificate, Join, Start}
use Rattle.mb_certificate.specs.Valid.{AreJoins, AreStarts, IsValid, PeakMeets, TracesMeet, free_rules, is_free, of_cell, of_column, pair_of}
use Rattle.mb_completion.proofs.Births.{finished_run}
use Rattle.mb_completion.proofs.FreeMoves.{made-moves, made-paths, rule-adds}
use Rattle.mb_completion.proofs.PeaksOfRun.{run_light}
use Rattle.mb_completion.proofs.Turns.{share}
use Rattle.mb_completion.specs.Laws.{FinishedIsCertified}
use Rattle.mb_completion.specs.Made.{move_of, moves_of, paths_of}
use Rattle.mb_completion.specs.Run.{AreLightPeaks}
use Rattle.mb_completion.specs.Start.{births_of}
use Rattle.mb_matrix.specs.MarkovBasis.{IsMarkovBasis}
use Rattle.mb_matrix.specs.Matrix.{Design, IsDesign}
use Rattle.mb_order.proofs.OrderLaws.{eliminates, is_order}
use Rattle.mb_order.proofs.PeakLaws.{left-is, old_places, pairs-only, sides-are, sides-get}
use Rattle.mb_order.specs.MarginFree.{margin_free}
use Rattle.mb_order.specs.Monomial.{Monomial}
use Rattle.mb_order.specs.Peak.{PairsMeet, left_of, pairs_below, peak, right_in, right_of, shared_pairs, sides_of}
use Rattle.mb_order.specs.Rewriting.{Meet, Rule, made}
use Rattle.mb_order.specs.declared.order.Order.{Order}
use Rattle.mb_rules.proofs.ByMoves.{joined}
use Rattle.mb_rules.specs.Elimination.{IsFreeRule, PathsJoin, StartsMeet}
use Rattle.mb_rules.specs.RuleList.{ValidRules, cmp_of}
use Rattle.mb_tables.proofs.ListLaws.{In-filter, In-filter_only, In-place, In-range, place-in, place-within}
use Rattle.mb_tables.specs.Chain.{Chain, Joined}

-- a list with another element in front
same_cons : {X : Type 0} {x y : X} {xs ys : List X} → x ≡ y → xs ≡ ys → (x ∷ xs) ≡ (y ∷ ys)
same_cons e f = cc

-- what holds of a first element and of the others holds at each place
holds_cons : {Y : Type 0} (P : Y → Type 0) (y : Y) (ys : List Y) → P y →
    ((k : ℕ) (z : Y) → slice_get ys k ≡ Some z → P z) →
    (k : ℕ) (z : Y) → slice_get (y ∷ ys) k ≡ Some z → P z
holds_cons P y ys first others zero z e = let same : y ≡ z = cc in subst P same first
holds_cons P y ys first others (suc k) z e = others k z e

-- where each element of a list has another one that belongs to it, these make a list
listed : {X Y : Type 0} (key : Y → X) (P : Y → Type 0) (xs : List X) →
    ((k : ℕ) (x : X) → slice_get xs k ≡ Some x → (y : Y) × (key y ≡ x) × P y) →
    (ys : List Y) × (map key ys ≡ xs)
    × ((k : ℕ) (y : Y) → slice_get ys k ≡ Some y → P y)
listed key P [] each = ([], refl, λ k y e. absurd (cc))
listed key P (x ∷ xs) each =
    let first = each 0 x refl in
    let rest = listed key P xs (λ k y e. each (suc k) y e) in (
      first.0 ∷ rest.0,
      same_cons first.1 rest.1,
      holds_cons P first.0 rest.0 first.2 rest.2,
    )

-- the number of a margin-free rule is one of theirs
free-place : (d : ℕ) (rules : List Rule) (k : ℕ) (rule : Rule) → slice_get rules k ≡ Some rule →
    IsFreeRule d rule → (place : ℕ) × (slice_get (free_rules d rules) place ≡ Some k)
free-place d rules k rule e free =
    let left : left_of rules k ≡ rule.0 = left-is rules k rule e in
    let right : right_of rules k ≡ rule.1 = ap right_in e in
    let passes = and_from (margin_free d (left_of rules k)) (margin_free d (right_of rules k))
    (ap (margin_free d) left ∙ free.0) (ap (margin_free d) right ∙ free.1) in
    In-place (free_rules d rules) k
    (In-filter (is_free d rules) k (range_with_len 0 (length rules))
    (In-range 0 (length rules) k (omega arith)
    (let p = place-within rules k rule e in omega arith)) passes)

-- monomials that meet do so by two traces
traces : (rules : List Rule) (a b : Monomial) → Meet rules a b →
    (first : List ℕ) × (second : List ℕ) × TracesMeet rules first a second b
traces rules a b h = ((h.1).0, (h.2).0, (h.0, (h.1).1, (h.2).1))

module _ (matrix : Design) (order : Order) (rules : List Rule) (design : IsDesign matrix)
    (valid : ValidRules order matrix rules) (pairs : PairsMeet rules)
    (starts : StartsMeet matrix.rows matrix.columns rules)
    (peaks : AreLightPeaks matrix rules) where
  -- what a start of a cell is to lead together
  abbrev StartMeets : ℕ → List ℕ → Start → Type 0
  StartMeets j column start =
      TracesMeet rules start.margin_steps (of_column (length matrix.columns) column)
      start.cell_steps (of_cell matrix j)

  -- a start for a first column and starts for the others are starts for all
  starts-cons : (j : ℕ) (first : List ℕ) (columns : List (List ℕ)) (start : Start)
      (list : List Start) → StartMeets j first start →
      ((k : ℕ) (column : List ℕ) (other : Start) → slice_get columns k ≡ Some column →
      slice_get list k ≡ Some other → StartMeets (suc j + k) column other) →
      (k : ℕ) (column : List ℕ) (other : Start) → slice_get (first ∷ columns) k ≡ Some column →
      slice_get (start ∷ list) k ≡ Some other → StartMeets (j + k) column other
  starts-cons j first columns start list meets others zero column other e f =
      let here : j ≡ j + 0 = omega arith in
      let own : first ≡ column = cc in
      let one : start ≡ other = cc in
      subst (λ n. StartMeets n column other) here
      (subst (λ s. StartMeets j column s) one (subst (λ c. StartMeets j c start) own meets))
  starts-cons j first columns start list meets others (suc k) column other e f =
      let next : suc j + k ≡ j + suc k = omega arith in
      subst (λ n. StartMeets n column other) next (others k column other e f)

  -- there is a start for each of the columns from cell j on
  starts-from : (j : ℕ) (columns : List (List ℕ)) →
      ((k : ℕ) (column : List ℕ) → slice_get columns k ≡ Some column →
      slice_get matrix.columns (j + k) ≡ Some column) →
      (list : List Start) × ((k : ℕ) (column : List ℕ) (start : Start) →
      slice_get columns k ≡ Some column → slice_get list k ≡ Some start →
      StartMeets (j + k) column start)
  starts-from j [] here = ([], λ k column start e f. absurd (cc))
  starts-from j (first ∷ columns) here =
      let same : j + 0 ≡ j = omega arith in
      let t = traces rules (of_column (length matrix.columns) first) (of_cell matrix j)
      (starts j first (ap (slice_get matrix.columns) (sym same) ∙ here 0 first refl)) in
      let start : Start = record { margin_steps = t.0; cell_steps = t.1 } in
      let rest = starts-from (suc j) columns (λ k column e.
      let next : suc j + k ≡ j + suc k = omega arith in
      ap (slice_get matrix.columns) next ∙ here (suc k) column e) in
      (start ∷ rest.0, starts-cons j first columns start rest.0 t.2 rest.1)

  -- those of all cells
  all-starts : (list : List Start) × ((k : ℕ) (column : List ℕ) (start : Start) →
      slice_get matrix.columns k ≡ Some column → slice_get list k ≡ Some start →
      StartMeets (0 + k) column start)
  all-starts = starts-from 0 matrix.columns (λ k column e.
      let same : 0 + k ≡ k = omega arith in ap (slice_get matrix.columns) same ∙ e)

  -- what a join is to lead together
  abbrev JoinMeets : Join → Type 0
  JoinMeets join =
      PeakMeets matrix rules join (sides_of rules join.low) (sides_of rules join.high)

  -- the joins of all pairs that share a symbol
  all-joins : (list : List Join) × AreJoins matrix rules list
  all-joins =
      let all = listed pair_of JoinMeets (shared_pairs rules) (λ k pair e.
      let places = old_places rules pair.0 pair.1 k e in
      let below = pairs-only (length rules) pair
      (In-filter_only (share rules) pair (pairs_below (length rules))
      (place-in (shared_pairs rules) k pair e)) in
      let shared = all-at (λ p. share rules p ≡ true) (shared_pairs rules) k pair
      (filter_passes (share rules) (pairs_below (length rules))) e in
      let low = sides_of rules pair.0 in
      let high = sides_of rules pair.1 in
      let f = sides-get rules pair.0 places.0 in
      let g = sides-get rules pair.1 places.1 in
      let t = traces rules (made low (peak low high)) (made high (peak low high))
      (pairs pair.0 pair.1 low high below.0 f g shared) in (
        record { low = pair.0; high = pair.1; low_steps = t.0; high_steps = t.1 },
        refl,
        (peaks pair.0 pair.1 low high below.0 f g shared, t.2),
      )) in
      (all.0, record { all = all.1; meet = at-all JoinMeets all.0 all.2 })

  -- the certificate
  abbrev certificate : Certificate
  certificate = record {
    matrix = matrix;
    order = order;
    moves = moves_of matrix.rows rules;
    rules = rules;
    starts = all-starts.0;
    joins = all-joins.0;
    paths = paths_of matrix.rows rules;
  }

  -- its starts lead
  starts-lead : AreStarts matrix rules all-starts.0
  starts-lead j column start e f =
      let same : 0 + j ≡ j = omega arith in
      subst (λ n. StartMeets n column start) same (all-starts.1 j column start e f)

  -- it is valid
  certificate-valid : IsValid certificate
  certificate-valid = record {
    moves = made-moves matrix (cmp_of order matrix) rules design.each valid;
    rules = valid;
    starts = starts-lead;
    joins = all-joins.1;
    paths = made-paths matrix (cmp_of order matrix) rules design.each valid;
  }

  -- each margin-free rule's own move joins its sides
  paths-join : PathsJoin matrix.rows rules (moves_of matrix.rows rules)
  unfolding Chain
  paths-join k rule e free =
      let d = matrix.rows in
      let sides = sides-are rules k rule e in
      let place = free-place d rules k rule e free in
      let adds = rule-adds matrix (cmp_of order matrix) rules design.each valid place.0 k place.1 in
      let move : ℕ → List ℤ = λ n. move_of d (sides_of rules n) in
      let there : slice_get (moves_of d rules) place.0 ≡ Some (move k) =
      slice_get-map move (free_rules d rules) place.0 ∙ ap (option_map move) place.1 in
      let one : Joined (moves_of d rules) (drop d (left_of rules k)) (drop d (right_of rules k)) =
      (drop d (right_of rules k) ∷ [], ((place.0, move k, there, inr adds), refl)) in
      subst (λ (r : Rule). Joined (moves_of d rules) (drop d r.0) (drop d r.1)) sides one

  -- so the moves are a Markov basis
  pub made-markov : IsMarkovBasis matrix (moves_of matrix.rows rules)
  made-markov =
      let d = matrix.rows in
      let columns = matrix.columns in record {
        kept = made-moves matrix (cmp_of order matrix) rules design.each valid;
        joins = joined d columns (cmp_of order matrix) rules (moves_of d rules) valid paths-join
            design.each (is_order order d (d + length columns))
            (eliminates order d (d + length columns)) pairs starts;
      }

-- the law of finished runs
pub certified : FinishedIsCertified
certified matrix order budget final looks design r =
    let f = finished_run matrix order budget final looks design r in
    let peaks = run_light matrix order budget (births_of matrix) 0 final looks
    (λ k p l e. absurd (omega arith)) r in (
      certificate matrix order final design f.0 f.1 f.2 peaks,
      refl,
      refl,
      refl,
      certificate-valid matrix order final design f.0 f.1 f.2 peaks,
      made-markov matrix order final design f.0 f.1 f.2 peaks,
    )
