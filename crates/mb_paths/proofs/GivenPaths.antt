-- Moves beside a valid certificate: the tables of its rules, and what new paths make of it.
use Rattle.std.proofs.Common.{All, Bool, List, Some, [], ap, append-nil, arith, cond, drop, false, get_or, length, length-drop, map, negsuc, pos, slice_get, subst, suc, sym, true, zero, ℕ, ℤ, ◌++◌, ◌+◌, ◌<◌, ◌∙◌, ◌∷◌, ◌≡◌, ◌≤◌, ◌^◌}
use Rattle.std.proofs.lemmas.Bool.{and_parts}
use Rattle.std.proofs.lemmas.List.{length-map, map-append}
use Rattle.std.proofs.lemmas.List.Elements.{All-cons, All-drop, All-nil, All-push}
use Rattle.std.proofs.lemmas.Option.{slice_get-map, slice_get_read}
use Rattle.std.specs.List.{filter, range_with_len}
use Rattle.std.specs.Option.{option_map}
use Rattle.mb_certificate.proofs.LineFaults.{all-at, at-all}
use Rattle.mb_certificate.specs.Certificate.{AreParts, AreSides, Certificate, IsSigned, Path}
use Rattle.mb_certificate.specs.Sides.{PairSuits, sides}
use Rattle.mb_certificate.specs.Valid.{IsValid, MovesBy, Walks, free_rules, is_free}
use Rattle.mb_certificate.specs.declared.parts.Pair.{Pair}
use Rattle.mb_checker.proofs.TableCells.{margins-small}
use Rattle.mb_checker.proofs.Turns.{range-more}
use Rattle.mb_matrix.specs.Fiber.{margins}
use Rattle.mb_matrix.specs.Matrix.{Design, margins_of}
use Rattle.mb_order.proofs.MarginFreeLaws.{free-weight}
use Rattle.mb_order.proofs.PeakLaws.{left-is}
use Rattle.mb_order.proofs.WeightLaws.{symbols-length}
use Rattle.mb_order.specs.Limits.{largest_exponent}
use Rattle.mb_order.specs.MarginFree.{margin_free}
use Rattle.mb_order.specs.Peak.{left_in, left_of, right_in, right_of, sides_of}
use Rattle.mb_paths.specs.Beside.{AreLeastPaths, AreMovesOf, HasPathsBefore, IsPathOf, ShowsApart, left_table, right_table, with_moves}
use Rattle.mb_paths.specs.declared.beside_fault.BesideFault.{BesideFault}
use Rattle.mb_paths.specs.declared.beside_fault.BesideFault.TheVariants.{NotAMove, NotBasis, OutOfMemory, TooLarge, WidthDiffers}
use Rattle.mb_paths.specs.loops.Pathless.{IsPathlessAt}
use Rattle.mb_rings.proofs.Reaching.{reaches_joined}
use Rattle.mb_tables.proofs.ListLaws.{In-filter, In-map_range, In-place, In-range, filter-append, place-within, some_at}
use Rattle.mb_tables.specs.Limits.{most_moves}
use Rattle.mb_tables.specs.Lists.{In}
use Rattle.mb_tables.specs.Rows.{Rows}

module _ (c : Certificate) (parts : AreParts c) (valid : IsValid c) (k : ℕ)
    (within : k < length c.rules) where
  -- the rule of the number
  rule-there : slice_get c.rules k ≡ Some (sides_of c.rules k)
  rule-there =
      let r = some_at c.rules k within in
      r.1 ∙ ap Some (sym (ap (λ o. (left_in o, right_in o)) r.1))

  -- the table of the left side is over the matrix's cells
  pub left-long : length (left_table c k) ≡ length c.matrix.columns
  left-long =
      let v = valid.rules k (sides_of c.rules k) rule-there in
      let a = v.left_wide in
      let b = symbols-length c.matrix.rows c.matrix.columns in
      let e = length-drop c.matrix.rows (left_of c.rules k) in omega arith

  -- its margins fit 32 bits
  pub left-margins : All (λ margin. margin < 2 ^ 32) (margins_of c.matrix (left_table c k))
  left-margins =
      let side = all-at (AreSides c.matrix) c.rules k (sides_of c.rules k) parts.rules rule-there in
      margins-small c.matrix (left_table c k) parts.design left-long
      (All-drop (λ x. x ≤ largest_exponent) c.matrix.rows (left_of c.rules k) (side.left).small)

  -- and where the rule is margin-free, both tables have equal margins
  pub sides-margins : is_free c.matrix.rows c.rules k ≡ true →
      margins_of c.matrix (left_table c k) ≡ margins_of c.matrix (right_table c k)
  sides-margins free =
      let d = c.matrix.rows in
      let columns = c.matrix.columns in
      let v = valid.rules k (sides_of c.rules k) rule-there in
      let both = and_parts (margin_free d (left_of c.rules k)) (margin_free d (right_of c.rules k))
      free in
      sym (free-weight d columns (left_of c.rules k) parts.design.each v.left_wide both.0)
      ∙ v.equal_weight
      ∙ free-weight d columns (right_of c.rules k) parts.design.each v.right_wide both.1

-- a table of the cells' exponents of a rule's left side
pub left-is_table : (c : Certificate) (k : ℕ) (pair : Pair) (table : List ℕ) →
    slice_get c.rules k ≡ Some (sides pair) → PairSuits c.matrix pair →
    table ≡ drop pair.left.margins pair.left.list → table ≡ left_table c k
left-is_table c k pair table e suits is =
    is ∙ ap (λ d. drop d pair.left.list) (suits.left).margins
    ∙ ap (drop c.matrix.rows) (sym (left-is c.rules k (sides pair) e))

-- and one of its right side's
pub right-is_table : (c : Certificate) (k : ℕ) (pair : Pair) (table : List ℕ) →
    slice_get c.rules k ≡ Some (sides pair) → PairSuits c.matrix pair →
    table ≡ drop pair.right.margins pair.right.list → table ≡ right_table c k
right-is_table c k pair table e suits is =
    is ∙ ap (λ d. drop d pair.right.list) (suits.right).margins
    ∙ ap (drop c.matrix.rows) (sym (ap right_in e))

-- the signed numbers of a walk are of moves
pub walk-signed : (moves : List (List ℤ)) (steps : List ℤ) (u v : List ℕ) →
    length moves ≤ most_moves → Walks moves steps u v → All IsSigned steps
unfolding Walks
walk-signed moves [] u v few h = All-nil IsSigned
walk-signed moves (step ∷ steps) u v few h =
    All-cons IsSigned step steps (signed step h.1) (walk-signed moves steps h.0 v few h.2)
  where
    signed : (s : ℤ) → MovesBy moves s u h.0 → IsSigned s
    signed (pos zero) m = absurd m
    signed (pos (suc k)) m = record {
      some = λ e. cc;
      fits = let l = place-within moves k m.0 m.1 in omega arith;
    }
    signed (negsuc k) m = record {
      some = λ e. cc;
      fits = let l = place-within moves k m.0 m.1 in omega arith;
    }

module _ (limit : ℕ) (c : Certificate) (moves : List (List ℤ)) (k : ℕ) where
  -- whether a rule is margin-free
  abbrev test : ℕ → Bool
  test j = is_free c.matrix.rows c.rules j

  -- the margin-free rules before the next one, where this one is
  pub free-more : test k ≡ true →
      filter test (range_with_len 0 (k + 1)) ≡ filter test (range_with_len 0 k) ++ k ∷ []
  free-more e =
      let f : 0 + k ≡ k = omega arith in
      ap (filter test) (range-more 0 k ∙ ap (λ n. range_with_len 0 k ++ n ∷ []) f)
      ∙ filter-append test (range_with_len 0 k) (k ∷ [])
      ∙ ap (λ t. filter test (range_with_len 0 k) ++ cond t (k ∷ []) []) e

  -- and where it isn't
  pub free-same : test k ≡ false →
      filter test (range_with_len 0 (k + 1)) ≡ filter test (range_with_len 0 k)
  free-same e =
      let f : 0 + k ≡ k = omega arith in
      ap (filter test) (range-more 0 k ∙ ap (λ n. range_with_len 0 k ++ n ∷ []) f)
      ∙ filter-append test (range_with_len 0 k) (k ∷ [])
      ∙ ap (λ t. filter test (range_with_len 0 k) ++ cond t (k ∷ []) []) e
      ∙ append-nil (filter test (range_with_len 0 k))

  -- one path more
  pub paths-more : (numbers : List ℕ) (paths : List Path) (path : Path) →
      AreLeastPaths limit c moves numbers paths → path.rule ≡ k →
      IsPathOf limit c moves k path.steps →
      AreLeastPaths limit c moves (numbers ++ k ∷ []) (paths ++ path ∷ [])
  paths-more numbers paths path h e p = record {
    all =
        map-append (λ (x : Path). x.rule) paths (path ∷ [])
        ∙ ap (λ list. list ++ path.rule ∷ []) h.all ∙ ap (λ n. numbers ++ n ∷ []) e;
    each =
        All-push (λ (x : Path). IsPathOf limit c moves x.rule x.steps) paths path h.each
        (subst (λ n. IsPathOf limit c moves n path.steps) (sym e) p);
  }

  -- each margin-free rule before this one has a path
  pub paths-before : (paths : List Path) → k < length c.rules → test k ≡ true →
      AreLeastPaths limit c moves (filter test (range_with_len 0 k)) paths →
      HasPathsBefore limit c moves k
  paths-before paths within free h = record {
    within = within;
    free = free;
    before = λ j l f.
        let listed = In-filter test j (range_with_len 0 k)
        (In-range 0 k j (omega arith) (omega arith))
        f in
        let found = In-map_range (λ (x : Path). x.rule) j paths (subst (In j) (sym h.all) listed) in
        let place = In-place paths found.0 found.1 in
        let path = all-at (λ (x : Path). IsPathOf limit c moves x.rule x.steps)
        paths place.0 found.0
        h.each place.1 in
        ((found.0).steps, subst (λ n. IsPathOf limit c moves n (found.0).steps) (sym found.2) path);
  }

-- with paths of its moves the certificate is valid
pub beside-valid : (limit : ℕ) (c : Certificate) (moves : Rows) (paths : List Path) → IsValid c →
    AreMovesOf c.matrix moves →
    AreLeastPaths limit c moves.rows (free_rules c.matrix.rows c.rules) paths →
    IsValid (with_moves c moves.rows paths)
beside-valid limit c moves paths valid are h = record {
  moves = are.each;
  rules = valid.rules;
  starts = valid.starts;
  joins = valid.joins;
  paths = record {
    all = h.all;
    lead = at-all (λ (path : Path). Walks moves.rows path.steps
        (left_table c path.rule) (right_table c path.rule)) paths
        (λ k path e.
        (all-at (λ (x : Path). IsPathOf limit c moves.rows x.rule x.steps) paths k path h.each
        e).path.leads);
  };
}

-- the rule of a number, among the pairs that the program holds
pub pair-there : (c : Certificate) (pairs : List Pair) (k : ℕ) (pair : Pair) →
    map sides pairs ≡ c.rules → k < length c.rules → pair ≡ get_or pairs k pair →
    (slice_get pairs k ≡ Some pair) × (slice_get c.rules k ≡ Some (sides pair))
pair-there c pairs k pair all within is =
    let long = length-map pairs sides in
    let same = ap length all in
    let there = slice_get_read pairs (length pairs) k pair (omega arith) (omega arith) is in (
      there,
      ap (λ list. slice_get list k) (sym all) ∙ slice_get-map sides pairs k
          ∙ ap (option_map sides) there,
    )

-- the tables of its sides
pub tables-are : (c : Certificate) (pairs : List Pair) (k : ℕ) (pair : Pair)
    (left right : List ℕ) → map sides pairs ≡ c.rules → k < length c.rules →
    pair ≡ get_or pairs k pair → All (PairSuits c.matrix) pairs →
    left ≡ drop pair.left.margins pair.left.list →
    right ≡ drop pair.right.margins pair.right.list →
    (left ≡ left_table c k) × (right ≡ right_table c k)
tables-are c pairs k pair left right all within is suit l r =
    let there = pair-there c pairs k pair all within is in
    let suits = all-at (PairSuits c.matrix) pairs k pair suit there.0 in
    (left-is_table c k pair left there.1 suits l, right-is_table c k pair right there.1 suits r)

-- what holds of a matrix and two tables holds of the same under other names
pub same-three : (P : Design → List ℕ → List ℕ → Type 0) (m n : Design) (u v w x : List ℕ) →
    m ≡ n → u ≡ w → v ≡ x → P m u v → P n w x
same-three P m n u v w x e f g h =
    subst (λ t. P n w t) g (subst (λ t. P n t v) f (subst (λ d. P d u v) e h))

-- the tables of a rule without a path have equal margins, and where the moves don't reach one from
-- the other, no chain of them joins the two
pub shows-apart : (limit : ℕ) (c : Certificate) (moves : Rows) (fault : BesideFault) →
    AreParts c → IsValid c → AreMovesOf c.matrix moves → IsPathlessAt limit c moves.rows fault →
    ShowsApart c.matrix moves.rows fault
shows-apart limit c moves WidthDiffers parts valid are h = tt
shows-apart limit c moves (NotAMove row) parts valid are h = tt
shows-apart limit c moves (NotBasis rule left right) parts valid are h =
    let k = h.0 in
    let before = h.1 in
    let same = h.2 in (
      ap (margins_of c.matrix) same.1
          ∙ sides-margins c parts valid k before.within before.free
          ∙ ap (margins_of c.matrix) (sym same.2),
      (λ joined. (same.3).missed
          ((reaches_joined c.matrix parts.design moves.rows are.each left
          (ap length same.1 ∙ left-long c parts valid k before.within) right).1 joined)),
    )
shows-apart limit c moves (TooLarge rule seen) parts valid are h = tt
shows-apart limit c moves OutOfMemory parts valid are h = tt
