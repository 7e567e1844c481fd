-- The line of an element that a loop reads.
use Rattle.std.proofs.Common.{List, None, Some, ap, arith, length, map, slice_get, slice_index_or, sym, ℕ, ℤ, ◌<◌, ◌∙◌, ◌≡◌, ◌≤◌}
use Rattle.std.proofs.lemmas.List.{length-map}
use Rattle.std.proofs.lemmas.Option.{slice_get-map}
use Rattle.std.specs.Option.{option_map}
use Rattle.mb_certificate.specs.Certificate.{Certificate, Start}
use Rattle.mb_certificate.specs.FirstFault.{first_from, move_fault, move_lines, rule_fault, rule_lines, start_fault, start_lines}
use Rattle.mb_certificate.specs.Sides.{sides}
use Rattle.mb_certificate.specs.declared.parts.Pair.{Pair}
use Rattle.mb_checker.proofs.JudgedLines.{fault-at, faults-length, item-get, none-wrong}
use Rattle.mb_checker.specs.loops.Lines.{AreRightBefore}
use Rattle.mb_order.specs.Rewriting.{Rule}

-- there is a line for each move
pub moves-length : (c : Certificate) → length (move_lines c) ≡ length c.moves
moves-length c = faults-length (λ (i : ℕ) (move : List ℤ). move_fault c.matrix move) 0 c.moves

-- for each rule
pub rules-length : (c : Certificate) → length (rule_lines c) ≡ length c.rules
rules-length c = faults-length (λ (i : ℕ) (rule : Rule). rule_fault c.matrix c.order rule) 0 c.rules

-- and for each start
pub starts-length : (c : Certificate) → length (start_lines c) ≡ length c.starts
starts-length c =
    faults-length (λ (j : ℕ) (start : Start). start_fault c.matrix c.rules j start) 0 c.starts

module _ (c : Certificate) (k : ℕ) where
  -- the line of a move
  pub move-line : (items : List (List ℤ)) (move : List ℤ) → items ≡ c.moves → k < length items →
      move ≡ slice_index_or items k move →
      slice_get (move_lines c) k ≡ Some (move_fault c.matrix move)
  move-line items move e l is =
      fault-at (λ i move. move_fault c.matrix move) c.moves k move
      (ap (λ xs. slice_get xs k) (sym e) ∙ item-get items k move l is)

  -- past the moves there is no line of one
  pub moves-end : (line : ℕ) (items : List (List ℤ)) → items ≡ c.moves → length items ≤ k →
      AreRightBefore (move_lines c) k → first_from line (move_lines c) ≡ None
  moves-end line items e l h =
      none-wrong line (move_lines c) k h
      (let a = moves-length c in
      let b = ap length e in omega arith)

  -- the line of a rule
  pub rule-line : (items : List Pair) (pair : Pair) → map sides items ≡ c.rules →
      k < length items → pair ≡ slice_index_or items k pair →
      slice_get (rule_lines c) k ≡ Some (rule_fault c.matrix c.order (sides pair))
  rule-line items pair e l is =
      fault-at (λ i rule. rule_fault c.matrix c.order rule) c.rules k (sides pair)
      (ap (λ xs. slice_get xs k) (sym e) ∙ slice_get-map sides items k
      ∙ ap (option_map sides) (item-get items k pair l is))

  -- past the rules there is no line of one
  pub rules-end : (line : ℕ) (items : List Pair) → map sides items ≡ c.rules → length items ≤ k →
      AreRightBefore (rule_lines c) k → first_from line (rule_lines c) ≡ None
  rules-end line items e l h =
      none-wrong line (rule_lines c) k h
      (let a = rules-length c in
      let b = ap length e in let d = length-map items sides in omega arith)

  -- the line of a start
  pub start-line : (items : List Start) (start : Start) → items ≡ c.starts → k < length items →
      start ≡ slice_index_or items k start →
      slice_get (start_lines c) k ≡ Some (start_fault c.matrix c.rules k start)
  start-line items start e l is =
      fault-at (λ j start. start_fault c.matrix c.rules j start) c.starts k start
      (ap (λ xs. slice_get xs k) (sym e) ∙ item-get items k start l is)

  -- past the starts there is no line of one
  pub starts-end : (line : ℕ) (items : List Start) → items ≡ c.starts → length items ≤ k →
      AreRightBefore (start_lines c) k → first_from line (start_lines c) ≡ None
  starts-end line items e l h =
      none-wrong line (start_lines c) k h
      (let a = starts-length c in
      let b = ap length e in omega arith)
