-- The lines of paths, judged rule by rule.
use Rattle.std.proofs.Common.{All, Bool, List, None, Option, Some, [], ap, append_assoc, arith, drop, false, length, length-append, length-drop, nat_eq, nat_le, refl, slice_get, subst, sym, true, ℕ, ◌++◌, ◌+◌, ◌<◌, ◌∙◌, ◌∷◌, ◌≡◌, ◌≤◌, ◌^◌}
use Rattle.std.proofs.lemmas.Bool.Decides.{nat_tests}
use Rattle.std.proofs.lemmas.List.Elements.{All-drop}
use Rattle.std.proofs.lemmas.Option.{slice_get_past}
use Rattle.std.specs.List.{filter, range_with_len}
use Rattle.std.specs.Option.{option_or}
use Rattle.mb_certificate.proofs.LineFaults.{all-at, left-none}
use Rattle.mb_certificate.specs.Certificate.{AreParts, AreSides, Certificate, Path}
use Rattle.mb_certificate.specs.FirstFault.{faults_from, first_from, left_over, path_fault, path_lines, steps_fault, unless}
use Rattle.mb_certificate.specs.Sides.{PairSuits, sides}
use Rattle.mb_certificate.specs.Valid.{free_rules, is_free}
use Rattle.mb_certificate.specs.declared.line_fault.Reason.{Reason}
use Rattle.mb_certificate.specs.declared.line_fault.Reason.TheVariants.{PathMissing}
use Rattle.mb_certificate.specs.declared.parts.Pair.{Pair}
use Rattle.mb_checker.proofs.JudgedLines.{fault-at, faults-length, first-wrong, none-wrong, right-more, right-none, wrong}
use Rattle.mb_checker.proofs.TableCells.{margins-small}
use Rattle.mb_checker.proofs.Turns.{counts, passes, range-front, turn}
use Rattle.mb_checker.specs.loops.Taken.{ArePassed}
use Rattle.mb_checker.specs.loops.Walked.{HasSmallMargins}
use Rattle.mb_matrix.proofs.CellLists.{range-next}
use Rattle.mb_order.specs.Limits.{largest_exponent}
use Rattle.mb_order.specs.Peak.{left_of, right_of}
use Rattle.mb_tables.proofs.ListLaws.{get-last, get-more, place-within, some_at}

module _ (c : Certificate) (are : AreParts c) (k : ℕ) (rule : Pair)
    (there : slice_get c.rules k ≡ Some (sides rule)) (suits : PairSuits c.matrix rule)
    (table : List ℕ) (is : table ≡ drop rule.left.margins rule.left.list) where
  -- the table of the left side is over the cells of the matrix
  pub left-cells : length table ≡ length c.matrix.columns
  left-cells =
      ap length is ∙ length-drop rule.left.margins rule.left.list
      ∙ (let a = (suits.left).margins in let b = (suits.left).symbols in omega arith)

  -- and has small margins
  pub left-small : HasSmallMargins c.matrix table
  left-small =
      let side = all-at (AreSides c.matrix) c.rules k (sides rule) are.rules there in
      margins-small c.matrix table are.design left-cells
      (subst (All (λ x. x ≤ largest_exponent)) (sym is)
      (All-drop (λ x. x ≤ largest_exponent) rule.left.margins rule.left.list (side.left).small))

module _ (c : Certificate) where
  abbrev free : List ℕ
  free = free_rules c.matrix.rows c.rules

  abbrev test : ℕ → Bool
  test k = is_free c.matrix.rows c.rules k

  abbrev fault : ℕ → Path → Option Reason
  fault k path = path_fault c.matrix c.rules c.moves (slice_get free k) path

  abbrev last : Option Reason
  last = left_over (length free) (length c.paths) PathMissing

  -- the line of a path
  path-line : (next : ℕ) (path : Path) → slice_get c.paths next ≡ Some path →
      slice_get (path_lines c) next ≡ Some (fault next path)
  path-line next path e =
      get-more (faults_from fault 0 c.paths) (last ∷ []) next (fault next path)
      (fault-at fault c.paths next path e)

  -- the line after the paths
  last-line : slice_get (path_lines c) (length c.paths) ≡ Some last
  last-line =
      ap (slice_get (path_lines c)) (sym (faults-length fault 0 c.paths))
      ∙ get-last (faults_from fault 0 c.paths) last

  -- there are these lines
  lines-length : length (path_lines c) ≡ length c.paths + 1
  lines-length =
      length-append (faults_from fault 0 c.paths) (last ∷ [])
      ∙ ap (λ n. n + 1) (faults-length fault 0 c.paths)

  module _ (k next : ℕ) (there : slice_get free next ≡ Some k) where
    -- where a rule comes and no path is left, the line after the paths is wrong
    pub rule-left : next ≡ length c.paths → slice_get (path_lines c) next ≡ Some (Some PathMissing)
    rule-left e =
        let l = place-within free next k there in
        let f : nat_le (length free) (length c.paths) ≡ false = grind (arith, nat_tests) in
        ap (slice_get (path_lines c)) e ∙ last-line ∙ ap (λ t. Some (unless t PathMissing)) f

    -- the line of a path, by whether it is of this rule
    path-tested : (path : Path) (t : Bool) → slice_get c.paths next ≡ Some path →
        nat_eq k path.rule ≡ t →
        slice_get (path_lines c) next ≡ Some (option_or (unless t PathMissing)
        (steps_fault c.moves path.steps (drop c.matrix.rows (left_of c.rules path.rule))
        (drop c.matrix.rows (right_of c.rules path.rule))))
    path-tested path t e f =
        path-line next path e
        ∙ ap (λ o. Some (path_fault c.matrix c.rules c.moves o path)) there
        ∙ ap (λ t. Some (option_or (unless t PathMissing)
        (steps_fault c.moves path.steps (drop c.matrix.rows (left_of c.rules path.rule))
        (drop c.matrix.rows (right_of c.rules path.rule))))) f

    -- a path of another rule is wrong
    pub path-other : (path : Path) → slice_get c.paths next ≡ Some path →
        nat_eq k path.rule ≡ false → slice_get (path_lines c) next ≡ Some (Some PathMissing)
    path-other path e f = path-tested path false e f

    -- one of this rule is judged by its steps
    pub path-same : (path : Path) → slice_get c.paths next ≡ Some path →
        nat_eq k path.rule ≡ true →
        slice_get (path_lines c) next ≡ Some (steps_fault c.moves path.steps
        (drop c.matrix.rows (left_of c.rules path.rule))
        (drop c.matrix.rows (right_of c.rules path.rule)))
    path-same path e f = path-tested path true e f

  -- at first none is judged
  pub passed-none : length c.paths < 2 ^ 32 → ArePassed c 0 0
  passed-none few = record {
    place = refl;
    right = right-none (path_lines c);
    within = omega arith;
    few = few;
  }

  -- a rule with symbols of margins is passed
  pub passed-over : (k next : ℕ) → ArePassed c k next → test k ≡ false → ArePassed c (k + 1) next
  passed-over k next are e = record {
    place = are.place ∙ sym (ap (λ l. length (filter test l)) (range-next k)
        ∙ passes test (range_with_len 0 k) k e);
    right = are.right;
    within = are.within;
    few = are.few;
  }

  -- a margin-free one has its line
  pub passed-counted : (k next : ℕ) → ArePassed c k next → test k ≡ true →
      slice_get (path_lines c) next ≡ Some None → next < length c.paths →
      ArePassed c (k + 1) (next + 1)
  passed-counted k next are e f l = record {
    place = ap (λ n. n + 1) are.place
        ∙ sym (ap (λ l. length (filter test l)) (range-next k)
        ∙ counts test (range_with_len 0 k) k e);
    right = right-more (path_lines c) next are.right f;
    within = omega arith;
    few = are.few;
  }

  -- the rule that takes its turn
  pub passed-turn : (k next : ℕ) → ArePassed c k next → k < length c.rules → test k ≡ true →
      slice_get free next ≡ Some k
  passed-turn k next are l e =
      let r = range-front (length c.rules) (k + 1) (omega arith) in
      let all : range_with_len 0 (length c.rules) ≡ range_with_len 0 k ++ (k ∷ r.0) =
      r.1 ∙ ap (λ l. l ++ r.0) (range-next k) ∙ append_assoc (range_with_len 0 k) (k ∷ []) r.0 in
      ap (slice_get free) are.place
      ∙ ap (λ l. slice_get (filter test l) (length (filter test (range_with_len 0 k)))) all
      ∙ turn test (range_with_len 0 k) k r.0 e

  module _ (next line : ℕ) (are : ArePassed c (length c.rules) next) where
    -- a path that is left is wrong
    pub path-left : next < length c.paths →
        first_from line (path_lines c) ≡ wrong (line + next) PathMissing
    path-left l =
        let path = some_at c.paths next l in
        let place = are.place in
        let past : slice_get free next ≡ None = slice_get_past free next (omega arith) in
        first-wrong line (path_lines c) next PathMissing are.right
        (path-line next path.0 path.1
        ∙ ap (λ o. Some (path_fault c.matrix c.rules c.moves o path.0)) past)

    -- where none is left, no line is wrong
    pub paths-right : length c.paths ≤ next → first_from line (path_lines c) ≡ None
    paths-right l =
        let within = are.within in
        let e : next ≡ length c.paths = omega arith in
        let f = are.place in
        let g = lines-length in
        none-wrong line (path_lines c) (next + 1)
        (right-more (path_lines c) next are.right
        (ap (slice_get (path_lines c)) e ∙ last-line
        ∙ ap Some (left-none (length free) (length c.paths) PathMissing (omega arith))))
        (omega arith)
