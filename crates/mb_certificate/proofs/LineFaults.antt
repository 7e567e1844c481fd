-- No line of a list is wrong exactly where the list meets its condition.
use Rattle.std.proofs.Common.{All, List, None, Option, Some, [], ap, arith, drop, inl, inr, int_eq, length, length-append, nat_eq, nat_le, pos, refl, slice_get, slice_index_or, subst, suc, sym, true, zero, ℕ, ℤ, ◌&&◌, ◌+◌, ◌<◌, ◌∙◌, ◌∷◌, ◌≡◌, ◌≤◌, ◌⊎◌}
use Rattle.std.proofs.lemmas.Bool.{and_from, and_parts, le-leb, leb-true}
use Rattle.std.proofs.lemmas.Bool.Decides.{Decides-by_and, Decides-eqb, Decides-int_eq}
use Rattle.std.proofs.lemmas.List.{get_or_past}
use Rattle.std.proofs.lemmas.List.Elements.{All-head, All-tail}
use Rattle.std.proofs.lemmas.Option.{slice_get-get_or}
use Rattle.std.specs.Bool.{Decides}
use Rattle.std.specs.List.{list_all}
use Rattle.std.specs.Ordering.{is_gt}
use Rattle.std.specs.declared.cmp.Ordering.{Ordering}
use Rattle.std.specs.declared.cmp.Ordering.TheVariants.{Equal, Greater, Less}
use Rattle.mb_certificate.proofs.Reasons.{lists-same, none-unless, same-lists, unless-none}
use Rattle.mb_certificate.proofs.Replays.{AreWide, made-wide, meet-traces, traces-meet}
use Rattle.mb_certificate.proofs.Walking.{steps-walk, walk-steps}
use Rattle.mb_certificate.specs.Certificate.{Join, Path, Start}
use Rattle.mb_certificate.specs.FirstFault.{are_same, ends_fault, is_light, join_fault, left_over, move_fault, path_fault, peak_fault, replay, rule_fault, start_fault, steps_fault, unless}
use Rattle.mb_certificate.specs.Valid.{PeakMeets, TracesMeet, Walks, of_cell, of_column, pair_of}
use Rattle.mb_certificate.specs.declared.line_fault.Reason.{Reason}
use Rattle.mb_certificate.specs.declared.line_fault.Reason.TheVariants.{MoveMargins, NotDown, PairMissing, PairNotJoined, PathMissing, PeakTooHeavy, StartNotJoined, WeightDiffers}
use Rattle.mb_matrix.specs.Fiber.{AreColumns}
use Rattle.mb_matrix.specs.Matrix.{Design, IsMove, rows_in}
use Rattle.mb_order.proofs.PeakLaws.{sides-get}
use Rattle.mb_order.specs.Limits.{most_weight}
use Rattle.mb_order.specs.Monomial.{Monomial}
use Rattle.mb_order.specs.Order.{monomial_cmp}
use Rattle.mb_order.specs.Peak.{left_of, peak, right_of, sides_of}
use Rattle.mb_order.specs.Rewriting.{Rule, made}
use Rattle.mb_order.specs.Weight.{IsLight, weights}
use Rattle.mb_order.specs.declared.order.Order.{Order}
use Rattle.mb_tables.proofs.OptionLaws.{none-or, or-none}
use Rattle.mb_tables.proofs.UnitLaws.{length-unit}
use Rattle.mb_tables.proofs.VectorLaws.{length-greater, length-zeros}
use Rattle.mb_tables.specs.Margin.{move_margin}
use Rattle.mb_tables.specs.Vectors.{unit, zeros}

-- what holds of all holds of what stands at a place
pub all-at : {X : Type 0} (P : X → Type 0) (xs : List X) (k : ℕ) (x : X) → All P xs →
    slice_get xs k ≡ Some x → P x
all-at P [] k x h e = cc
all-at P (y ∷ xs) zero x h e = let f : y ≡ x = cc in subst P f (All-head P y xs h)
all-at P (y ∷ xs) (suc k) x h e = all-at P xs k x (All-tail P y xs h) e

-- and the other way round
pub at-all : {X : Type 0} (P : X → Type 0) (xs : List X) →
    ((k : ℕ) (x : X) → slice_get xs k ≡ Some x → P x) → All P xs
at-all P xs h k d l = h k (slice_index_or xs k d) (slice_get-get_or xs k d l)

-- what stands at a place, whatever is taken where nothing does
pub read-at : {X : Type 0} (xs : List X) (k : ℕ) (x d : X) → slice_get xs k ≡ Some x →
    slice_index_or xs k d ≡ x
read-at [] k x d e = cc
read-at (y ∷ xs) zero x d e = cc
read-at (y ∷ xs) (suc k) x d e = read-at xs k x d e

-- the move is told to have margins 0 exactly where it has
move-decided : (matrix : Design) (move : List ℤ) →
    Decides (list_all (λ row. int_eq (move_margin row move) (pos 0)) (rows_in matrix))
    (IsMove matrix move)
move-decided matrix move =
    Decides-by_and (λ row. int_eq (move_margin row move) (pos 0))
    (λ row. move_margin row move ≡ pos 0)
    (list_all (λ row. int_eq (move_margin row move) (pos 0)))
    (λ row. Decides-int_eq (move_margin row move) (pos 0)) refl (λ _ _. refl) (rows_in matrix)

-- a move's line
pub move-none : (matrix : Design) (move : List ℤ) → move_fault matrix move ≡ None →
    IsMove matrix move
move-none matrix move e =
    (move-decided matrix move).0
    (unless-none (list_all (λ row. int_eq (move_margin row move) (pos 0)) (rows_in matrix))
    MoveMargins e)

-- and the other way round
pub none-move : (matrix : Design) (move : List ℤ) → IsMove matrix move →
    move_fault matrix move ≡ None
none-move matrix move h =
    none-unless (list_all (λ row. int_eq (move_margin row move) (pos 0)) (rows_in matrix))
    MoveMargins ((move-decided matrix move).1 h)

-- what is told to be greater is so
gt-is : (o : Ordering) → is_gt o ≡ true → o ≡ Greater
gt-is Less e = cc
gt-is Equal e = cc
gt-is Greater e = refl

-- a rule's line
pub rule-none : (matrix : Design) (order : Order) (rule : Rule) →
    rule_fault matrix order rule ≡ None →
    (weights matrix rule.0 ≡ weights matrix rule.1)
    × (monomial_cmp order matrix.rows rule.0 rule.1 ≡ Greater)
rule-none matrix order rule e =
    let same = are_same (weights matrix rule.0) (weights matrix rule.1) in
    let o = monomial_cmp order matrix.rows rule.0 rule.1 in
    let r = or-none (unless same WeightDiffers) (unless (is_gt o) NotDown) e in (
      same-lists (weights matrix rule.0) (weights matrix rule.1)
          (unless-none same WeightDiffers r.0),
      gt-is o (unless-none (is_gt o) NotDown r.1),
    )

-- and the other way round
pub none-rule : (matrix : Design) (order : Order) (rule : Rule) →
    weights matrix rule.0 ≡ weights matrix rule.1 →
    monomial_cmp order matrix.rows rule.0 rule.1 ≡ Greater →
    rule_fault matrix order rule ≡ None
none-rule matrix order rule e f =
    let same = are_same (weights matrix rule.0) (weights matrix rule.1) in
    let o = monomial_cmp order matrix.rows rule.0 rule.1 in
    none-or (unless same WeightDiffers) (unless (is_gt o) NotDown)
    (none-unless same WeightDiffers
    (lists-same (weights matrix rule.0) (weights matrix rule.1) e))
    (none-unless (is_gt o) NotDown (ap is_gt f))

-- a monomial is told to be light exactly where it is
light-decided : (matrix : Design) (m : Monomial) →
    Decides (is_light matrix m) (All (λ weight. weight ≤ most_weight) (weights matrix m))
light-decided matrix m =
    Decides-by_and (λ weight. nat_le weight most_weight) (λ weight. weight ≤ most_weight)
    (list_all (λ weight. nat_le weight most_weight))
    (λ weight. (leb-true weight most_weight, le-leb weight most_weight)) refl (λ _ _. refl)
    (weights matrix m)

-- where it is told to be so, it is light on each margin
pub light-is : (matrix : Design) (m : Monomial) → is_light matrix m ≡ true → IsLight matrix m
light-is matrix m e i =
    let all = (light-decided matrix m).0 e in
    let cases : (i < length (weights matrix m)) ⊎ (length (weights matrix m) ≤ i) = grind arith in
    elim cases [
      | inl l ↦ all i 0 l
      | inr l ↦ (let f = get_or_past (weights matrix m) i 0 l in omega arith)
    ]

-- and the other way round
pub is-light : (matrix : Design) (m : Monomial) → IsLight matrix m → is_light matrix m ≡ true
is-light matrix m h =
    (light-decided matrix m).1 (λ k d l.
    let a = h k in
    let b = slice_get-get_or (weights matrix m) k d l in
    let f = read-at (weights matrix m) k (slice_index_or (weights matrix m) k d) 0 b in
    omega arith)

-- a line after a list, where nothing is left over
pub none-left : (all count : ℕ) (reason : Reason) → left_over all count reason ≡ None →
    all ≤ count
none-left all count reason e = leb-true all count (unless-none (nat_le all count) reason e)

-- and the other way round
pub left-none : (all count : ℕ) (reason : Reason) → all ≤ count →
    left_over all count reason ≡ None
left-none all count reason h = none-unless (nat_le all count) reason (le-leb all count h)

-- the column of a cell has an entry for each margin
column-high : (d : ℕ) (columns : List (List ℕ)) (j : ℕ) (column : List ℕ) →
    AreColumns d columns → slice_get columns j ≡ Some column → length column ≡ d
column-high d [] j column h e = cc
column-high d (b ∷ columns) zero column h e =
    let f : b ≡ column = cc in ap length (sym f) ∙ (h.0).high
column-high d (b ∷ columns) (suc j) column h e = column-high d columns j column h.1 e

module _ (matrix : Design) (rules : List Rule)
    (wide : AreWide (matrix.rows + length matrix.columns) rules) where
  -- the monomials of a start are of the matrix's symbols
  start-wide : (j : ℕ) (column : List ℕ) → AreColumns matrix.rows matrix.columns →
      slice_get matrix.columns j ≡ Some column →
      (length (of_column (length matrix.columns) column) ≡ matrix.rows + length matrix.columns)
      × (length (of_cell matrix j) ≡ matrix.rows + length matrix.columns)
  start-wide j column h e =
      let n = length matrix.columns in (
        length-append column (zeros n)
            ∙ (let a = column-high matrix.rows matrix.columns j column h e in
            let b = length-zeros n in omega arith),
        length-append (zeros matrix.rows) (unit n j)
            ∙ (let a = length-zeros matrix.rows in let b = length-unit n j in omega arith),
      )

  -- a start's line
  pub start-none : (j : ℕ) (column : List ℕ) (start : Start) →
      AreColumns matrix.rows matrix.columns → slice_get matrix.columns j ≡ Some column →
      start_fault matrix rules j start ≡ None →
      TracesMeet rules start.margin_steps (of_column (length matrix.columns) column)
      start.cell_steps (of_cell matrix j)
  start-none j column start h e f =
      let w = start-wide j column h e in
      let same = read-at matrix.columns j column [] e in
      traces-meet rules (matrix.rows + length matrix.columns) wide StartNotJoined
      start.margin_steps start.cell_steps (of_column (length matrix.columns) column)
      (of_cell matrix j) w.0 w.1
      (subst (λ x. ends_fault StartNotJoined
      (replay rules start.margin_steps (of_column (length matrix.columns) x))
      (replay rules start.cell_steps (of_cell matrix j)) ≡ None) same f)

  -- and the other way round
  pub none-start : (j : ℕ) (column : List ℕ) (start : Start) →
      AreColumns matrix.rows matrix.columns → slice_get matrix.columns j ≡ Some column →
      TracesMeet rules start.margin_steps (of_column (length matrix.columns) column)
      start.cell_steps (of_cell matrix j) →
      start_fault matrix rules j start ≡ None
  none-start j column start h e f =
      let w = start-wide j column h e in
      let same = read-at matrix.columns j column [] e in
      subst (λ x. ends_fault StartNotJoined
      (replay rules start.margin_steps (of_column (length matrix.columns) x))
      (replay rules start.cell_steps (of_cell matrix j)) ≡ None) (sym same)
      (meet-traces rules (matrix.rows + length matrix.columns) wide StartNotJoined
      start.margin_steps start.cell_steps (of_column (length matrix.columns) column)
      (of_cell matrix j) w.0 w.1 f)

  module _ (join : Join) (first : join.low < length rules) (second : join.high < length rules) where
    abbrev low : Rule
    low = sides_of rules join.low

    abbrev high : Rule
    high = sides_of rules join.high

    -- what both rules make of the peak is of the matrix's symbols
    peak-wide : (length (made low (peak low high)) ≡ matrix.rows + length matrix.columns)
        × (length (made high (peak low high)) ≡ matrix.rows + length matrix.columns)
    peak-wide =
        let width = matrix.rows + length matrix.columns in
        let e = sides-get rules join.low first in
        let f = sides-get rules join.high second in
        let v = (wide join.low low e).0 in
        let w = (wide join.high high f).0 in
        let top : length (peak low high) ≡ width = omega (arith, length-greater low.0 high.0) in (
          made-wide rules width wide join.low low (peak low high) e top,
          made-wide rules width wide join.high high (peak low high) f top,
        )

    -- a join's traces
    peak-none : peak_fault matrix rules join low high ≡ None →
        PeakMeets matrix rules join low high
    peak-none e =
        let top = peak low high in
        let w = peak-wide in
        let ends = ends_fault PairNotJoined (replay rules join.low_steps (made low top))
        (replay rules join.high_steps (made high top)) in
        let r = or-none (unless (is_light matrix top) PeakTooHeavy) ends e in (
          light-is matrix top (unless-none (is_light matrix top) PeakTooHeavy r.0),
          traces-meet rules (matrix.rows + length matrix.columns) wide PairNotJoined
              join.low_steps join.high_steps (made low top) (made high top) w.0 w.1 r.1,
        )

    -- and the other way round
    none-peak : PeakMeets matrix rules join low high →
        peak_fault matrix rules join low high ≡ None
    none-peak h =
        let top = peak low high in
        let w = peak-wide in
        let ends = ends_fault PairNotJoined (replay rules join.low_steps (made low top))
        (replay rules join.high_steps (made high top)) in
        none-or (unless (is_light matrix top) PeakTooHeavy) ends
        (none-unless (is_light matrix top) PeakTooHeavy (is-light matrix top h.0))
        (meet-traces rules (matrix.rows + length matrix.columns) wide PairNotJoined
        join.low_steps join.high_steps (made low top) (made high top) w.0 w.1 h.1)

  -- the pair of a join's line
  pub join-pair : (next : Option (ℕ × ℕ)) (join : Join) →
      join_fault matrix rules next join ≡ None →
      (next ≡ Some (pair_of join))
      × (peak_fault matrix rules join (sides_of rules join.low) (sides_of rules join.high) ≡ None)
  join-pair None join e = cc
  join-pair (Some pair) join e =
      let a = nat_eq pair.0 join.low in
      let b = nat_eq pair.1 join.high in
      let r = or-none (unless (a && b) PairMissing)
      (peak_fault matrix rules join (sides_of rules join.low) (sides_of rules join.high)) e in
      let both = and_parts a b (unless-none (a && b) PairMissing r.0) in
      let f : pair.0 ≡ join.low = (Decides-eqb pair.0 join.low).0 both.0 in
      let g : pair.1 ≡ join.high = (Decides-eqb pair.1 join.high).0 both.1 in (
        ap (λ i. let p : ℕ × ℕ = (i, pair.1) in Some p) f
            ∙ ap (λ j. let p : ℕ × ℕ = (join.low, j) in Some p) g,
        r.1,
      )

  -- a join's line
  pub join-none : (join : Join) → join.low < length rules → join.high < length rules →
      peak_fault matrix rules join (sides_of rules join.low) (sides_of rules join.high) ≡ None →
      PeakMeets matrix rules join (sides_of rules join.low) (sides_of rules join.high)
  join-none join l m e = peak-none join l m e

  -- and the other way round
  pub none-join : (next : Option (ℕ × ℕ)) (join : Join) → next ≡ Some (pair_of join) →
      join.low < length rules → join.high < length rules →
      PeakMeets matrix rules join (sides_of rules join.low) (sides_of rules join.high) →
      join_fault matrix rules next join ≡ None
  none-join next join e l m h =
      let a = nat_eq join.low join.low in
      let b = nat_eq join.high join.high in
      ap (λ o. join_fault matrix rules o join) e
      ∙ none-or (unless (a && b) PairMissing)
      (peak_fault matrix rules join (sides_of rules join.low) (sides_of rules join.high))
      (none-unless (a && b) PairMissing
      (and_from a b ((Decides-eqb join.low join.low).1 refl)
      ((Decides-eqb join.high join.high).1 refl)))
      (none-peak join l m h)

  -- a path's line
  pub path-none : (moves : List (List ℤ)) (next : Option ℕ) (path : Path) →
      path_fault matrix rules moves next path ≡ None →
      (next ≡ Some path.rule)
      × Walks moves path.steps (drop matrix.rows (left_of rules path.rule))
      (drop matrix.rows (right_of rules path.rule))
  path-none moves None path e = cc
  path-none moves (Some k) path e =
      let u = drop matrix.rows (left_of rules path.rule) in
      let v = drop matrix.rows (right_of rules path.rule) in
      let a = nat_eq k path.rule in
      let r = or-none (unless a PathMissing) (steps_fault moves path.steps u v) e in
      let f : k ≡ path.rule = (Decides-eqb k path.rule).0 (unless-none a PathMissing r.0) in
      (ap Some f, steps-walk moves path.steps u v r.1)

  -- and the other way round
  pub none-path : (moves : List (List ℤ)) (next : Option ℕ) (path : Path) →
      next ≡ Some path.rule →
      Walks moves path.steps (drop matrix.rows (left_of rules path.rule))
      (drop matrix.rows (right_of rules path.rule)) →
      path_fault matrix rules moves next path ≡ None
  none-path moves next path e h =
      let u = drop matrix.rows (left_of rules path.rule) in
      let v = drop matrix.rows (right_of rules path.rule) in
      let a = nat_eq path.rule path.rule in
      ap (λ o. path_fault matrix rules moves o path) e
      ∙ none-or (unless a PathMissing) (steps_fault moves path.steps u v)
      (none-unless a PathMissing ((Decides-eqb path.rule path.rule).1 refl))
      (walk-steps moves path.steps u v h)
