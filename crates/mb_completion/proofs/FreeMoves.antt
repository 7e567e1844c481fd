-- The moves and paths that are made of margin-free rules: each path subtracts its rule's own move.
use Rattle.std.proofs.Common.{List, Some, [], ap, arith, drop, length, length-drop, map, negsuc, refl, slice_get, subst, suc, sym, true, zero, ℕ, ℤ, ◌+◌, ◌∙◌, ◌∷◌, ◌≡◌}
use Rattle.std.proofs.lemmas.Bool.{and_parts}
use Rattle.std.proofs.lemmas.Int.{ints}
use Rattle.std.proofs.lemmas.List.Elements.{filter_passes}
use Rattle.std.proofs.lemmas.Option.{slice_get-map}
use Rattle.std.specs.List.{range_with_len}
use Rattle.std.specs.Option.{option_map}
use Rattle.std.specs.declared.cmp.Ordering.{Ordering}
use Rattle.mb_certificate.proofs.LineFaults.{all-at, at-all}
use Rattle.mb_certificate.specs.Certificate.{Path}
use Rattle.mb_certificate.specs.Valid.{AreMoves, ArePaths, Walks, free_rules, is_free}
use Rattle.mb_completion.specs.Made.{difference, move_of, moves_of, path_of, paths_from, paths_of}
use Rattle.mb_matrix.proofs.MovedMargins.{move_if_kept}
use Rattle.mb_matrix.specs.Fiber.{AreColumns}
use Rattle.mb_matrix.specs.Matrix.{Design, IsMove}
use Rattle.mb_order.proofs.MarginFreeLaws.{free-weight}
use Rattle.mb_order.proofs.PeakLaws.{sides-get}
use Rattle.mb_order.specs.Monomial.{Monomial}
use Rattle.mb_order.specs.Peak.{left_of, right_of, sides_of}
use Rattle.mb_order.specs.Rewriting.{AreValid, Rule}
use Rattle.mb_order.specs.Weight.{symbols_of}
use Rattle.mb_rules.specs.Elimination.{IsFreeRule}
use Rattle.mb_tables.proofs.ListLaws.{In-filter_only, In-map_range, In-place, place-in, range-only}
use Rattle.mb_tables.specs.Step.{Adds}

-- the second of two vectors and their difference make the first
difference-adds : (u v : List ℕ) → length u ≡ length v → Adds v (difference u v) u
unfolding difference Adds
difference-adds [] [] e = tt
difference-adds [] (y ∷ v) e = absurd (omega arith)
difference-adds (x ∷ u) [] e = absurd (omega arith)
difference-adds (x ∷ u) (y ∷ v) e = (omega (arith, ints), difference-adds u v (omega arith))

-- the rule with the number of a margin-free one is there, and is margin-free
free-rule : (d : ℕ) (rules : List Rule) (k number : ℕ) →
    slice_get (free_rules d rules) k ≡ Some number →
    (slice_get rules number ≡ Some (sides_of rules number)) × IsFreeRule d (sides_of rules number)
free-rule d rules k number e =
    let all = range_with_len 0 (length rules) in
    let test = is_free d rules in
    let within = range-only 0 (length rules) number
    (In-filter_only test number all (place-in (free_rules d rules) k number e)) in
    let free = all-at (λ n. test n ≡ true) (free_rules d rules) k number (filter_passes test all) e
    in
    let l = within.1 in
    (sides-get rules number (omega arith), and_parts _ _ free)

module _ (matrix : Design) (compare : Monomial → Monomial → Ordering) (rules : List Rule)
    (fit : AreColumns matrix.rows matrix.columns)
    (valid : AreValid matrix.rows (symbols_of matrix) compare rules) where
  -- the move of a margin-free rule and the table of its right side make that of its left side
  pub rule-adds : (k number : ℕ) → slice_get (free_rules matrix.rows rules) k ≡ Some number →
      Adds (drop matrix.rows (right_of rules number)) (move_of matrix.rows (sides_of rules number))
      (drop matrix.rows (left_of rules number))
  rule-adds k number e =
      let v = valid number (sides_of rules number) (free-rule matrix.rows rules k number e).0 in
      let a = v.left_wide in let b = v.right_wide in
      difference-adds (drop matrix.rows (left_of rules number))
      (drop matrix.rows (right_of rules number)) (simp length-drop (omega arith))

  -- it is a move of the matrix
  rule-moves : (k number : ℕ) → slice_get (free_rules matrix.rows rules) k ≡ Some number →
      IsMove matrix (move_of matrix.rows (sides_of rules number))
  rule-moves k number e =
      let d = matrix.rows in
      let r = free-rule d rules k number e in
      let v = valid number (sides_of rules number) r.0 in
      move_if_kept matrix (drop d (right_of rules number)) (move_of d (sides_of rules number))
      (drop d (left_of rules number)) (rule-adds k number e)
      (sym (free-weight d matrix.columns (right_of rules number) fit v.right_wide (r.1).1)
      ∙ sym v.equal_weight
      ∙ free-weight d matrix.columns (left_of rules number) fit v.left_wide (r.1).0)

  -- so are all moves
  pub made-moves : AreMoves matrix (moves_of matrix.rows rules)
  made-moves = at-all (IsMove matrix) (moves_of matrix.rows rules) (λ k move e.
      let free = free_rules matrix.rows rules in
      let r = In-map_range (λ n. move_of matrix.rows (sides_of rules n)) move free
      (place-in (moves_of matrix.rows rules) k move e) in
      let place = In-place free r.0 r.1 in
      subst (IsMove matrix) (sym r.2) (rule-moves place.0 r.0 place.1))

  -- the paths are of these rules
  paths-rules : (n : ℕ) (numbers : List ℕ) →
      map (λ (path : Path). path.rule) (paths_from n numbers) ≡ numbers
  unfolding paths_from
  paths-rules n [] = refl
  paths-rules n (number ∷ numbers) = ap (λ l. number ∷ l) (paths-rules (suc n) numbers)

  -- the path at a place
  path-at : (n : ℕ) (numbers : List ℕ) (k : ℕ) (path : Path) →
      slice_get (paths_from n numbers) k ≡ Some path →
      (number : ℕ) × (slice_get numbers k ≡ Some number) × (path_of (n + k) number ≡ path)
  unfolding paths_from
  path-at n [] k path e = cc
  path-at n (number ∷ numbers) zero path e =
      let g : n + 0 ≡ n = omega arith in
      let f : path_of n number ≡ path = cc in
      (number, refl, ap (λ i. path_of i number) g ∙ f)
  path-at n (number ∷ numbers) (suc k) path e =
      let r = path-at (suc n) numbers k path e in
      let g : n + suc k ≡ suc n + k = omega arith in
      (r.0, r.1, ap (λ i. path_of i r.0) g ∙ r.2)

  -- the path of a margin-free rule leads from the table of its left side to that of its right side
  path-walks : (k number : ℕ) → slice_get (free_rules matrix.rows rules) k ≡ Some number →
      Walks (moves_of matrix.rows rules) (negsuc k ∷ [])
      (drop matrix.rows (left_of rules number)) (drop matrix.rows (right_of rules number))
  unfolding Walks
  path-walks k number e =
      let move : ℕ → List ℤ = λ n. move_of matrix.rows (sides_of rules n) in (
        drop matrix.rows (right_of rules number),
        (
          move number,
          slice_get-map move (free_rules matrix.rows rules) k ∙ ap (option_map move) e,
          rule-adds k number e,
        ),
        refl,
      )

  -- the paths are of all margin-free rules, and lead
  pub made-paths : ArePaths matrix rules (moves_of matrix.rows rules) (paths_of matrix.rows rules)
  made-paths =
      let d = matrix.rows in record {
        all = paths-rules 0 (free_rules d rules);
        lead = at-all (λ (path : Path). Walks (moves_of d rules) path.steps
            (drop d (left_of rules path.rule)) (drop d (right_of rules path.rule)))
            (paths_of d rules) (λ k path e.
            let r = path-at 0 (free_rules d rules) k path e in
            let g : 0 + k ≡ k = omega arith in
            subst (λ (path : Path). Walks (moves_of d rules) path.steps
            (drop d (left_of rules path.rule)) (drop d (right_of rules path.rule)))
            (sym (ap (λ i. path_of i r.0) g) ∙ r.2) (path-walks k r.0 r.1));
      }
