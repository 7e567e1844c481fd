-- A certificate has no wrong line exactly where it is valid.
use Rattle.std.proofs.Common.{List, None, Option, Some, [], ap, arith, drop, length, refl, replicate, slice_get, sym, ℕ, ℤ, ◌++◌, ◌+◌, ◌∙◌, ◌∷◌, ◌≡◌}
use Rattle.std.proofs.lemmas.List.{length-map}
use Rattle.mb_certificate.proofs.FaultLists.{AreRight, all-right, first-right, paired, pairing, parts-right, replicate-right, right-all, right-first, right-parts}
use Rattle.mb_certificate.proofs.LineFaults.{all-at, at-all, join-none, join-pair, left-none, move-none, none-join, none-left, none-move, none-path, none-rule, none-start, path-none, rule-none, start-none}
use Rattle.mb_certificate.proofs.Replays.{AreWide}
use Rattle.mb_certificate.specs.Certificate.{AreParts, AreSides, Certificate, Join, Path, Start}
use Rattle.mb_certificate.specs.FirstFault.{faults, faults_from, first_fault, join_fault, join_lines, move_fault, move_lines, left_over, path_fault, path_lines, rule_fault, rule_lines, start_fault, start_lines}
use Rattle.mb_certificate.specs.Valid.{AreJoins, AreMoves, ArePaths, AreRules, AreStarts, IsValid, PeakMeets, Walks, free_rules, pair_of}
use Rattle.mb_certificate.specs.declared.line_fault.Reason.TheVariants.{PairMissing, PathMissing}
use Rattle.mb_certificate.specs.declared.line_fault.Reason.{Reason}
use Rattle.mb_matrix.specs.Matrix.{IsMove}
use Rattle.mb_order.proofs.PeakLaws.{old_places}
use Rattle.mb_order.proofs.WeightLaws.{symbols-length}
use Rattle.mb_order.specs.Peak.{left_of, right_of, shared_pairs, sides_of}
use Rattle.mb_order.specs.Rewriting.{Rule}
use Rattle.mb_tables.proofs.ListLaws.{place-within, some_at}

module _ (c : Certificate) (are : AreParts c) where
  -- all rules are of the matrix's symbols
  pub wide : AreWide (c.matrix.rows + length c.matrix.columns) c.rules
  wide k rule e =
      let s = all-at (AreSides c.matrix) c.rules k rule are.rules e in
      ((s.left).symbols, (s.right).symbols)

  -- the lines of the moves
  pub moves-valid : AreRight (move_lines c) → AreMoves c.matrix c.moves
  moves-valid h =
      let fault : ℕ → List ℤ → Option Reason = λ k move. move_fault c.matrix move in
      at-all (IsMove c.matrix) c.moves (λ k move e.
      move-none c.matrix move (right-all fault c.moves h k move e))

  valid-moves : AreMoves c.matrix c.moves → AreRight (move_lines c)
  valid-moves h =
      let fault : ℕ → List ℤ → Option Reason = λ k move. move_fault c.matrix move in
      all-right fault c.moves (λ k move e.
      none-move c.matrix move (all-at (IsMove c.matrix) c.moves k move h e))

  -- those of the rules
  pub rules-valid : AreRight (rule_lines c) → AreRules c.matrix c.order c.rules
  rules-valid h k rule e =
      let fault : ℕ → Rule → Option Reason = λ k rule. rule_fault c.matrix c.order rule in
      let r = rule-none c.matrix c.order rule (right-all fault c.rules h k rule e) in
      let w = wide k rule e in
      let all = symbols-length c.matrix.rows c.matrix.columns in
      record {
        left_wide = w.0 ∙ sym all;
        right_wide = w.1 ∙ sym all;
        equal_weight = r.0;
        down = r.1;
      }

  valid-rules : AreRules c.matrix c.order c.rules → AreRight (rule_lines c)
  valid-rules h =
      let fault : ℕ → Rule → Option Reason = λ k rule. rule_fault c.matrix c.order rule in
      all-right fault c.rules (λ k rule e.
      let v = h k rule e in none-rule c.matrix c.order rule v.equal_weight v.down)

  -- those of the starts
  starts-valid : AreRight (start_lines c) → AreStarts c.matrix c.rules c.starts
  starts-valid h j column start e f =
      let fault : ℕ → Start → Option Reason = λ j start. start_fault c.matrix c.rules j start in
      start-none c.matrix c.rules wide j column start (are.design).each e
      (right-all fault c.starts h j start f)

  valid-starts : AreStarts c.matrix c.rules c.starts → AreRight (start_lines c)
  valid-starts h =
      let fault : ℕ → Start → Option Reason = λ j start. start_fault c.matrix c.rules j start in
      all-right fault c.starts (λ j start f.
      let l = place-within c.starts j start f in
      let m = are.each_cell in
      let column = some_at c.matrix.columns j (omega arith) in
      none-start c.matrix c.rules wide j column.0 start (are.design).each column.1
      (h j column.0 start column.1 f))

  -- those of the joins
  joins-valid : AreRight (join_lines c) → AreJoins c.matrix c.rules c.joins
  joins-valid g =
      let pairs = shared_pairs c.rules in
      let fault : ℕ → Join → Option Reason =
      λ k join. join_fault c.matrix c.rules (slice_get pairs k) join in
      let last = left_over (length pairs) (length c.joins) PairMissing in
      let parts = right-parts (faults_from fault 0 c.joins) (last ∷ []) g in
      let h = parts.0 in
      let next : (k : ℕ) (join : Join) → slice_get c.joins k ≡ Some join →
      slice_get pairs k ≡ Some (pair_of join) =
      λ k join e. (join-pair c.matrix c.rules wide (slice_get pairs k) join
      (right-all fault c.joins h k join e)).0 in
      record {
        all = paired pair_of c.joins pairs next
            (none-left (length pairs) (length c.joins) PairMissing (parts.1).0);
        meet = at-all (λ join.
            PeakMeets c.matrix c.rules join (sides_of c.rules join.low)
            (sides_of c.rules join.high)) c.joins (λ k join e.
            let r = join-pair c.matrix c.rules wide (slice_get pairs k) join
            (right-all fault c.joins h k join e) in
            let places = old_places c.rules join.low join.high k r.0 in
            join-none c.matrix c.rules wide join places.0 places.1 r.1);
      }

  valid-joins : AreJoins c.matrix c.rules c.joins → AreRight (join_lines c)
  valid-joins h =
      let pairs = shared_pairs c.rules in
      let fault : ℕ → Join → Option Reason =
      λ k join. join_fault c.matrix c.rules (slice_get pairs k) join in
      let last = left_over (length pairs) (length c.joins) PairMissing in
      parts-right (faults_from fault 0 c.joins) (last ∷ [])
      (all-right fault c.joins (λ k join e.
      let next = pairing pair_of c.joins pairs h.all k join e in
      let places = old_places c.rules join.low join.high k next in
      none-join c.matrix c.rules wide (slice_get pairs k) join next places.0 places.1
      (all-at (λ join.
      PeakMeets c.matrix c.rules join (sides_of c.rules join.low)
      (sides_of c.rules join.high)) c.joins k join h.meet e))) (
        left-none (length pairs) (length c.joins) PairMissing
            (let a = ap length h.all in let b = length-map c.joins pair_of in omega arith),
        tt,
      )

  -- those of the paths
  paths-valid : AreRight (path_lines c) → ArePaths c.matrix c.rules c.moves c.paths
  paths-valid g =
      let free = free_rules c.matrix.rows c.rules in
      let fault : ℕ → Path → Option Reason =
      λ k path. path_fault c.matrix c.rules c.moves (slice_get free k) path in
      let last = left_over (length free) (length c.paths) PathMissing in
      let parts = right-parts (faults_from fault 0 c.paths) (last ∷ []) g in
      let h = parts.0 in
      let rule : Path → ℕ = λ path. path.rule in
      record {
        all = paired rule c.paths free (λ k path e.
            (path-none c.matrix c.rules wide c.moves (slice_get free k) path
            (right-all fault c.paths h k path e)).0)
            (none-left (length free) (length c.paths) PathMissing (parts.1).0);
        lead = at-all (λ path. Walks c.moves path.steps
            (drop c.matrix.rows (left_of c.rules path.rule))
            (drop c.matrix.rows (right_of c.rules path.rule))) c.paths (λ k path e.
            (path-none c.matrix c.rules wide c.moves (slice_get free k) path
            (right-all fault c.paths h k path e)).1);
      }

  valid-paths : ArePaths c.matrix c.rules c.moves c.paths → AreRight (path_lines c)
  valid-paths h =
      let free = free_rules c.matrix.rows c.rules in
      let fault : ℕ → Path → Option Reason =
      λ k path. path_fault c.matrix c.rules c.moves (slice_get free k) path in
      let rule : Path → ℕ = λ path. path.rule in
      let last = left_over (length free) (length c.paths) PathMissing in
      parts-right (faults_from fault 0 c.paths) (last ∷ [])
      (all-right fault c.paths (λ k path e.
      none-path c.matrix c.rules wide c.moves (slice_get free k) path
      (pairing rule c.paths free h.all k path e)
      (all-at (λ path. Walks c.moves path.steps
      (drop c.matrix.rows (left_of c.rules path.rule))
      (drop c.matrix.rows (right_of c.rules path.rule))) c.paths k path h.lead e))) (
        left-none (length free) (length c.paths) PathMissing
            (let a = ap length h.all in let b = length-map c.paths rule in omega arith),
        tt,
      )

  -- no line is wrong: the certificate is valid
  pub valid-none : first_fault c ≡ None → IsValid c
  unfolding faults
  valid-none e =
      let joins = join_lines c ++ path_lines c in
      let starts = start_lines c ++ (None ∷ joins) in
      let rules = rule_lines c ++ (None ∷ starts) in
      let moves = move_lines c ++ (None ∷ rules) in
      let head = replicate (c.matrix.rows + 4) None in
      let all = right-parts head moves (first-right 1 (head ++ moves) e) in
      let m = right-parts (move_lines c) (None ∷ rules) all.1 in
      let r = right-parts (rule_lines c) (None ∷ starts) (m.1).1 in
      let s = right-parts (start_lines c) (None ∷ joins) (r.1).1 in
      let j = right-parts (join_lines c) (path_lines c) (s.1).1 in
      record {
        moves = moves-valid m.0;
        rules = rules-valid r.0;
        starts = starts-valid s.0;
        joins = joins-valid j.0;
        paths = paths-valid j.1;
      }

  -- and the other way round
  pub none-valid : IsValid c → first_fault c ≡ None
  unfolding faults
  none-valid h =
      let joins = join_lines c ++ path_lines c in
      let starts = start_lines c ++ (None ∷ joins) in
      let rules = rule_lines c ++ (None ∷ starts) in
      let moves = move_lines c ++ (None ∷ rules) in
      let head = replicate (c.matrix.rows + 4) None in
      let fourth = parts-right (join_lines c) (path_lines c) (valid-joins h.joins)
      (valid-paths h.paths) in
      let third = parts-right (start_lines c) (None ∷ joins) (valid-starts h.starts)
      (refl, fourth) in
      let second = parts-right (rule_lines c) (None ∷ starts) (valid-rules h.rules)
      (refl, third) in
      let first = parts-right (move_lines c) (None ∷ rules) (valid-moves h.moves)
      (refl, second) in
      right-first 1 (head ++ moves)
      (parts-right head moves (replicate-right (c.matrix.rows + 4)) first)
