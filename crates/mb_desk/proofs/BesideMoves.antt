-- What is answered of moves beside a certificate is what is decided of them.
use Rattle.std.proofs.Common.{All, Bool, Err, List, None, Ok, Option, Result, Some, [], ap, arith, cond, false, inl, inr, length, map, nat_eq, nat_lt, refl, slice_get, subst, suc, sym, true, zero, ℕ, ℤ, ◌+◌, ◌-◌, ◌<◌, ◌∙◌, ◌∷◌, ◌≡◌, ◌≢◌, ◌≤◌, ◌⊎◌}
use Rattle.std.proofs.lemmas.Bool.Decides.{nat_tests}
use Rattle.std.specs.List.{filter, range_with_len}
use Rattle.mb_certificate.proofs.LineFaults.{all-at, at-all, move-none, none-move}
use Rattle.mb_certificate.proofs.Walking.{chain-walk, moved-apart, walk-joined}
use Rattle.mb_certificate.specs.Certificate.{AreParts, Certificate, Path}
use Rattle.mb_certificate.specs.FirstFault.{move_fault}
use Rattle.mb_certificate.specs.Valid.{IsValid, Walks, free_rules, is_free}
use Rattle.mb_certificate.specs.declared.line_fault.Reason.{Reason}
use Rattle.mb_desk.proofs.LeastPathLaws.{least-found, path-walks}
use Rattle.mb_desk.specs.Decision.{Decided, stop_cause}
use Rattle.mb_desk.specs.ImportCommand.{all_moves, beside_of, beside_stop, moved_on, of_one_width, path_by, path_of, paths_of, too_large}
use Rattle.mb_desk.specs.LeastPaths.{least_path}
use Rattle.mb_desk.specs.declared.refusals.Refusal.{Refusal}
use Rattle.mb_desk.specs.declared.refusals.Refusal.TheVariants as refusals
use Rattle.mb_matrix.specs.Matrix.{Design, IsDesign, IsMove, fiber_of}
use Rattle.mb_paths.proofs.GivenPaths.{left-long}
use Rattle.mb_paths.specs.Beside.{AreMovesOf, BesideAnswers, HasPathsBefore, IsPathOf, left_table, right_table, with_moves}
use Rattle.mb_paths.specs.Between.{IsApart, PassesLimit, ball}
use Rattle.mb_paths.specs.declared.beside_fault.BesideFault.{BesideFault}
use Rattle.mb_paths.specs.declared.beside_fault.BesideFault.TheVariants as faults
use Rattle.mb_rings.proofs.DistinctTables.{length-le_distinct}
use Rattle.mb_rings.proofs.FiberSteps.{fiber-ascends, fiber-closed, fiber-start}
use Rattle.mb_rings.proofs.PathOrder.{before-shorter}
use Rattle.mb_rings.proofs.Reaching.{reaches_joined}
use Rattle.mb_rings.proofs.RingDistances.{ring-steps, some-ring, tables-more}
use Rattle.mb_rings.proofs.RingEnds.{rings_end}
use Rattle.mb_rings.proofs.RingSteps.{length-rings_to, rings_to-distinct, rings_to-joined, rings_to-step}
use Rattle.mb_rings.specs.Ring.{reached, rings_of, rings_to, tables_of}
use Rattle.mb_rings.specs.ShortestPath.{IsLeastPath}
use Rattle.mb_tables.proofs.ListLaws.{In-filter_only, In-map, place-in, range-only}
use Rattle.mb_tables.specs.Answers.{Gives, ◌>>=◌}
use Rattle.mb_tables.specs.Lists.{In}
use Rattle.mb_tables.specs.Rows.{Rows}

-- ---- the tables near a start

module _ (matrix : Design) (sound : IsDesign matrix) (moves : List (List ℤ))
    (each : All (IsMove matrix) moves) (start : List ℕ)
    (long : length start ≡ length matrix.columns) where
  -- the ball of this radius
  abbrev near : ℕ → List (List ℕ)
  near k = ball matrix moves start k

  -- a walk from a table of a ball ends in the ball that is wider by its length
  walk-near : (k : ℕ) (q : List ℤ) (u v : List ℕ) → In u (fiber_of matrix start) →
      In u (near k) → Walks moves q u v → In v (near (k + length q))
  unfolding Walks
  walk-near k [] u v f i h =
      let e : k ≡ k + 0 = omega arith in
      subst (λ n. In v (near n)) e (subst (λ w. In w (near k)) h i)
  walk-near k (step ∷ q) u v f i h =
      let apart = moved-apart moves step u h.0 h.1 in
      let j = fiber-closed matrix sound start moves each u h.0 f apart in
      let e : suc k + length q ≡ k + suc (length q) = omega arith in
      subst (λ n. In v (near n)) e
      (walk-near (suc k) q h.0 v j
      (rings_to-step (fiber_of matrix start) moves start k u h.0 i apart j) h.2)

  -- so one from the start ends in the ball of its length
  walk-ball : (q : List ℤ) (v : List ℕ) → Walks moves q start v → In v (near (length q))
  unfolding rings_to In
  walk-ball q v h =
      let e : 0 + length q ≡ length q = omega arith in
      subst (λ n. In v (near n)) e
      (walk-near 0 q start v (fiber-start matrix sound start long) (inl refl) h)

  -- a wider ball has the tables of a smaller one
  ball-more : (k n : ℕ) → k ≤ n → (v : List ℕ) → In v (near k) → In v (near n)
  ball-more k n l v i =
      let e : k + (n - k) ≡ n = omega arith in
      subst (λ m. In v (near m)) e (tables-more (fiber_of matrix start) moves start k (n - k) v i)

  -- and as many
  ball-long : (k n : ℕ) → k ≤ n → length (near k) ≤ length (near n)
  ball-long k n l =
      length-le_distinct (near k) (near n)
      (rings_to-distinct (fiber_of matrix start) moves start (fiber-ascends matrix sound start) k)
      (ball-more k n l)

  -- each ball is within the reached tables
  ball-reached : (k : ℕ) → length (near k) ≤ length (reached matrix moves start)
  ball-reached k =
      length-le_distinct (near k) (reached matrix moves start)
      (rings_to-distinct (fiber_of matrix start) moves start (fiber-ascends matrix sound start) k)
      (λ v i. (reaches_joined matrix sound moves each start long v).1
      (rings_to-joined (fiber_of matrix start) moves start k v i))

  -- a walk leads to a reached table
  walk-reached : (q : List ℤ) (v : List ℕ) → Walks moves q start v →
      In v (reached matrix moves start)
  walk-reached q v h =
      (reaches_joined matrix sound moves each start long v).1 (walk-joined moves q start v h)

  -- the least path is no longer than there are rings
  least-short : (p : List ℤ) (v : List ℕ) → IsLeastPath moves start p v →
      length p ≤ length (rings_of matrix moves start)
  least-short p v h =
      let fiber = fiber_of matrix start in
      let end =
      rings_end fiber moves start (fiber-ascends matrix sound start)
      (fiber-start matrix sound start long) in
      let i =
      subst (λ rings. In v (tables_of rings)) end.3 (walk-reached p v h.leads) in
      let r = some-ring fiber moves start end.0 v i in
      let s = ring-steps fiber moves start r.0 v r.2 in
      let q = chain-walk moves start s.0 v s.2 in
      let a = q.1 in
      let b = s.1 in
      let c = r.1 in
      let d = length-rings_to fiber moves start end.0 in
      let e = ap length end.3 in
      by (cases (length p) (length q.0)) (λ m. h.least q.0 q.2 (before-shorter q.0 p m))
      (omega arith)
    where
      cases : (m n : ℕ) → (m ≤ n) ⊎ (n < m)
      cases m n = grind arith

      by : {m n : ℕ} → (m ≤ n) ⊎ (n < m) → (n < m → ⊥) → n ≤ length (rings_of matrix moves start) →
          m ≤ length (rings_of matrix moves start)
      by (inl l) never few = omega arith
      by (inr l) never few = absurd (never l)

-- ---- the path of one rule

-- two numbers that differ
eq-false : (m n : ℕ) → m ≢ n → nat_eq m n ≡ false
eq-false m n h = by (nat_eq m n) refl
  where
    by : (t : Bool) → nat_eq m n ≡ t → nat_eq m n ≡ false
    by true e = let f : m ≡ n = grind (arith, nat_tests) in absurd (h f)
    by false e = e

-- a test that fails, and one that passes
lt-false : (m n : ℕ) → n ≤ m → nat_lt m n ≡ false
lt-false m n l = grind (arith, nat_tests)

lt-true : (m n : ℕ) → m < n → nat_lt m n ≡ true
lt-true m n l = grind (arith, nat_tests)

module _ (limit : ℕ) (c : Certificate) (sound : IsDesign c.matrix) (moves : List (List ℤ))
    (each : All (IsMove c.matrix) moves) (k : ℕ)
    (long : length (left_table c k) ≡ length c.matrix.columns) where
  -- the longest path that is sought
  abbrev most : ℕ
  most = length (rings_of c.matrix moves (left_table c k))

  -- the path that the moves have
  path-within : (steps : List ℤ) → IsPathOf limit c moves k steps →
      path_of limit c moves k ≡ Ok (record { rule = k; steps = steps })
  unfolding path_of
  path-within steps h =
      let short =
      least-short c.matrix sound moves each (left_table c k) long steps (right_table c k) h.path in
      ap (path_by limit c moves k)
      (least-found moves most (left_table c k) (right_table c k) steps h.path short)
      ∙ ap (λ t. cond t (too_large limit k) (Ok (record { rule = k; steps = steps })))
      (lt-false limit (length (ball c.matrix moves (left_table c k) (length steps))) h.near)

  -- no path
  path-apart : IsApart limit c.matrix moves (left_table c k) (right_table c k) →
      path_of limit c moves k ≡ Err (refusals.NotBasis k (left_table c k) (right_table c k))
  unfolding path_of
  path-apart h = by (least_path moves most (left_table c k) (right_table c k)) refl
    where
      by : (o : Option (List ℤ)) →
          least_path moves most (left_table c k) (right_table c k) ≡ o →
          path_of limit c moves k ≡ Err (refusals.NotBasis k (left_table c k) (right_table c k))
      by None e =
          ap (path_by limit c moves k) e
          ∙ ap (λ t. cond t (too_large limit k)
          (Err (refusals.NotBasis k (left_table c k) (right_table c k))))
          (lt-false limit (length (reached c.matrix moves (left_table c k))) h.within)
      by (Some p) e =
          absurd (h.missed
          (walk-reached c.matrix sound moves each (left_table c k) long p (right_table c k)
          (path-walks moves most (left_table c k) (right_table c k) p e)))

  -- too many tables
  path-passes : PassesLimit limit c.matrix moves (left_table c k) (right_table c k) →
      path_of limit c moves k ≡ too_large limit k
  unfolding path_of
  path-passes h = by (least_path moves most (left_table c k) (right_table c k)) refl
    where
      cases : (m n : ℕ) → (m ≤ n) ⊎ (n < m)
      cases m n = grind arith

      over : (p : List ℤ) → Walks moves p (left_table c k) (right_table c k) →
          limit < length (ball c.matrix moves (left_table c k) (length p))
      over p w =
          elim (cases (length p) h.radius) [
            | inl l ↦ absurd (h.missed
                (ball-more c.matrix sound moves each (left_table c k) long (length p) h.radius l
                (right_table c k)
                (walk-ball c.matrix sound moves each (left_table c k) long p (right_table c k) w)))
            | inr l ↦
                let a = h.passed in
                let b =
                ball-long c.matrix sound moves each (left_table c k) long (suc h.radius) (length p)
                (omega arith) in omega arith
          ]

      by : (o : Option (List ℤ)) →
          least_path moves most (left_table c k) (right_table c k) ≡ o →
          path_of limit c moves k ≡ too_large limit k
      by None e =
          let a = h.passed in
          let b =
          ball-reached c.matrix sound moves each (left_table c k) long (suc h.radius) in
          ap (path_by limit c moves k) e
          ∙ ap (λ t. cond t (too_large limit k)
          (Err (refusals.NotBasis k (left_table c k) (right_table c k))))
          (lt-true limit (length (reached c.matrix moves (left_table c k))) (omega arith))
      by (Some p) e =
          ap (path_by limit c moves k) e
          ∙ ap (λ t. cond t (too_large limit k) (Ok (record { rule = k; steps = p })))
          (lt-true limit (length (ball c.matrix moves (left_table c k) (length p)))
          (over p (path-walks moves most (left_table c k) (right_table c k) p e)))

-- ---- the paths of all rules

module _ (limit : ℕ) (c : Certificate) (moves : List (List ℤ)) where
  -- each path is decided
  abbrev IsDecided : Path → Type 0
  IsDecided path = path_of limit c moves path.rule ≡ Ok path

  -- so all are
  paths-ok : (paths : List Path) → All IsDecided paths →
      paths_of limit c moves (map (λ (x : Path). x.rule) paths) ≡ Ok paths
  unfolding paths_of
  paths-ok [] h = refl
  paths-ok (path ∷ paths) h =
      ap (λ d. d >>= λ (x : Path).
      paths_of limit c moves (map (λ (y : Path). y.rule) paths) >>= λ more. Ok (x ∷ more))
      (all-at IsDecided (path ∷ paths) 0 path h refl)
      ∙ ap (λ d. d >>= λ (more : List Path). Ok (path ∷ more))
      (paths-ok paths
      (at-all IsDecided paths (λ j x e. all-at IsDecided (path ∷ paths) (suc j) x h e)))

  -- the first rule without a path stops
  paths-stop : (test : ℕ → Bool) (refusal : Refusal) (k a n : ℕ) → a ≤ k → k < a + n →
      test k ≡ true → path_of limit c moves k ≡ Err refusal →
      ((j : ℕ) → j < k → test j ≡ true → (path : Path) × (path_of limit c moves j ≡ Ok path)) →
      paths_of limit c moves (filter test (range_with_len a n)) ≡ Err refusal
  unfolding paths_of
  paths-stop test refusal k a zero low high t e before = absurd (omega arith)
  paths-stop test refusal k a (suc n) low high t e before =
      by (cases a k low)
      (λ l. paths-stop test refusal k (a + 1) n (omega arith) (omega arith) t e before)
    where
      cases : (i j : ℕ) → i ≤ j → (i ≡ j) ⊎ (i < j)
      cases i j l = grind arith

      rest : List ℕ
      rest = filter test (range_with_len (a + 1) n)

      here : (i : ℕ) → test i ≡ true → path_of limit c moves i ≡ Err refusal →
          paths_of limit c moves (cond (test i) (i ∷ rest) rest) ≡ Err refusal
      here i f g =
          ap (λ b. paths_of limit c moves (cond b (i ∷ rest) rest)) f
          ∙ ap (λ d. d >>= λ (x : Path). paths_of limit c moves rest >>= λ more. Ok (x ∷ more)) g

      on : (b : Bool) → test a ≡ b → a < k → paths_of limit c moves rest ≡ Err refusal →
          paths_of limit c moves (cond b (a ∷ rest) rest) ≡ Err refusal
      on true f l later =
          let path = before a l f in
          ap (λ d. d >>= λ (x : Path). paths_of limit c moves rest >>= λ more. Ok (x ∷ more)) path.1
          ∙ ap (λ d. d >>= λ (more : List Path). Ok (path.0 ∷ more)) later
      on false f l later = later

      by : (a ≡ k) ⊎ (a < k) → (a < k → paths_of limit c moves rest ≡ Err refusal) →
          paths_of limit c moves (cond (test a) (a ∷ rest) rest) ≡ Err refusal
      by (inl f) later = here a (ap test f ∙ t) (ap (path_of limit c moves) f ∙ e)
      by (inr l) later = on (test a) refl l (later l)

-- ---- the moves

-- all are moves of the matrix
moves-ok : (matrix : Design) (row : ℕ) (moves : List (List ℤ)) → All (IsMove matrix) moves →
    all_moves matrix row moves ≡ Ok tt
unfolding all_moves
moves-ok matrix row [] h = refl
moves-ok matrix row (move ∷ moves) h =
    ap (λ o. moved_on row o (all_moves matrix (suc row) moves))
    (none-move matrix move (all-at (IsMove matrix) (move ∷ moves) 0 move h refl))
    ∙ moves-ok matrix (suc row) moves
    (at-all (IsMove matrix) moves
    (λ j x e. all-at (IsMove matrix) (move ∷ moves) (suc j) x h e))

-- the first that is none is refused
moves-stop : (matrix : Design) (row : ℕ) (moves : List (List ℤ)) (place : ℕ) (move : List ℤ) →
    slice_get moves place ≡ Some move → (IsMove matrix move → ⊥) →
    ((j : ℕ) (z : List ℤ) → j < place → slice_get moves j ≡ Some z → IsMove matrix z) →
    all_moves matrix row moves ≡ Err (refusals.NotAMove (row + place))
unfolding all_moves
moves-stop matrix row [] place move there other before = cc
moves-stop matrix row (z ∷ moves) zero move there other before =
    by (move_fault matrix z) refl
  where
    by : (o : Option Reason) → move_fault matrix z ≡ o →
        moved_on row o (all_moves matrix (suc row) moves) ≡ Err (refusals.NotAMove (row + 0))
    by None e =
        let same : z ≡ move = cc in
        absurd (other (subst (IsMove matrix) same (move-none matrix z e)))
    by (Some reason) e =
        let f : row ≡ row + 0 = omega arith in ap (λ n. Err (refusals.NotAMove n)) f
moves-stop matrix row (z ∷ moves) (suc place) move there other before =
    let f : suc row + place ≡ row + suc place = omega arith in
    ap (λ o. moved_on row o (all_moves matrix (suc row) moves))
    (none-move matrix z (before 0 z (omega arith) refl))
    ∙ moves-stop matrix (suc row) moves place move there other
    (λ j x l e. before (suc j) x (omega arith) e)
    ∙ ap (λ n. Err (refusals.NotAMove n)) f

-- ---- the answer

module _ (limit : ℕ) (c : Certificate) (parts : AreParts c) (valid : IsValid c) (moves : Rows) where
  -- the width is right
  width-ok : moves.width ≡ length c.matrix.columns → of_one_width c.matrix moves ≡ Ok tt
  width-ok e =
      let t : nat_eq moves.width (length c.matrix.columns) ≡ true = grind (arith, nat_tests) in
      ap (λ b. cond b (Ok tt) (Err (refusals.WidthDiffers (length c.matrix.columns) moves.width))) t

  -- the paths are what is left to decide
  abbrev with_paths : Decided (List Path) → Decided Certificate
  with_paths decided = decided >>= λ paths. Ok (with_moves c moves.rows paths)

  moved-ok : AreMovesOf c.matrix moves →
      beside_of limit c moves
      ≡ with_paths (paths_of limit c moves.rows (free_rules c.matrix.rows c.rules))
  moved-ok h =
      ap (λ d. d >>= λ (x : Unit {0}). all_moves c.matrix 1 moves.rows >>= λ (y : Unit {0}).
      with_paths (paths_of limit c moves.rows (free_rules c.matrix.rows c.rules)))
      (width-ok h.width)
      ∙ ap (λ d. d >>= λ (y : Unit {0}).
      with_paths (paths_of limit c moves.rows (free_rules c.matrix.rows c.rules)))
      (moves-ok c.matrix 1 moves.rows h.each)

  -- each rule before k has a path, and k has none
  stops : AreMovesOf c.matrix moves → (k : ℕ) → HasPathsBefore limit c moves.rows k →
      (refusal : Refusal) → path_of limit c moves.rows k ≡ Err refusal →
      beside_of limit c moves ≡ Err refusal
  stops are k h refusal e =
      moved-ok are
      ∙ ap with_paths
      (paths-stop limit c moves.rows (is_free c.matrix.rows c.rules) refusal k 0 (length c.rules)
      (omega arith) (let l = h.within in omega arith) h.free e
      (λ j l f. let l2 = h.within in
      let p = h.before j l f in (
        record { rule = j; steps = p.0 },
        path-within limit c parts.design moves.rows are.each j
            (left-long c parts valid j (omega arith)) p.0 p.1,
      )))

  -- what is answered is what is decided
  pub beside-gives : (answer : Result Certificate BesideFault) →
      BesideAnswers limit c moves answer →
      Gives (λ fault. stop_cause (beside_stop c moves fault)) (λ (x : Certificate). x) answer
      (beside_of limit c moves)
  beside-gives (Ok new) h =
      let are = h.0 in
      let least = h.2 in
      let decided =
      paths-ok limit c moves.rows new.paths
      (at-all (IsDecided limit c moves.rows) new.paths
      (λ j path e.
      let listed = rule-listed j path e in
      path-within limit c parts.design moves.rows are.each path.rule
      (left-long c parts valid path.rule (free-within path.rule listed)) path.steps
      (all-at (λ (x : Path). IsPathOf limit c moves.rows x.rule x.steps) new.paths j path
      least.each e))) in
      moved-ok are
      ∙ ap (λ numbers. with_paths (paths_of limit c moves.rows numbers)) (sym least.all)
      ∙ ap with_paths decided ∙ ap Ok (sym h.1)
    where
      rule-listed : (j : ℕ) (path : Path) → slice_get new.paths j ≡ Some path →
          In path.rule (free_rules c.matrix.rows c.rules)
      rule-listed j path e =
          subst (In path.rule) (h.2).all
          (In-map (λ (x : Path). x.rule) path new.paths (place-in new.paths j path e))

      free-within : (j : ℕ) → In j (free_rules c.matrix.rows c.rules) → j < length c.rules
      free-within j i =
          let r =
          range-only 0 (length c.rules) j
          (In-filter_only (is_free c.matrix.rows c.rules) j
          (range_with_len 0 (length c.rules)) i) in
          let l = r.1 in omega arith
  beside-gives (Err faults.WidthDiffers) h =
      let t = eq-false moves.width (length c.matrix.columns) h in
      ap (λ d. d >>= λ (x : Unit {0}). all_moves c.matrix 1 moves.rows >>= λ (y : Unit {0}).
      with_paths (paths_of limit c moves.rows (free_rules c.matrix.rows c.rules)))
      (ap (λ b. cond b (Ok tt)
      (Err (refusals.WidthDiffers (length c.matrix.columns) moves.width))) t)
  beside-gives (Err (faults.NotAMove row)) h =
      let first = h.1 in
      let f : 1 + first.place ≡ row = let e = first.number in omega arith in
      ap (λ d. d >>= λ (x : Unit {0}). all_moves c.matrix 1 moves.rows >>= λ (y : Unit {0}).
      with_paths (paths_of limit c moves.rows (free_rules c.matrix.rows c.rules)))
      (width-ok h.0)
      ∙ ap (λ d. d >>= λ (y : Unit {0}).
      with_paths (paths_of limit c moves.rows (free_rules c.matrix.rows c.rules)))
      (moves-stop c.matrix 1 moves.rows first.place first.move first.there first.other first.before)
      ∙ ap (λ n. Err (refusals.NotAMove n)) f
  beside-gives (Err (faults.NotBasis k left right)) h =
      let are = h.0 in
      let before = h.1 in
      let apart =
      subst (λ v. IsApart limit c.matrix moves.rows (left_table c k) v) h.3
      (subst (λ u. IsApart limit c.matrix moves.rows u right) h.2 h.4) in
      stops are k before (refusals.NotBasis k (left_table c k) (right_table c k))
      (path-apart limit c parts.design moves.rows are.each k
      (left-long c parts valid k before.within) apart)
      ∙ ap (λ u. Err (refusals.NotBasis k u (right_table c k))) (sym h.2)
      ∙ ap (λ v. Err (refusals.NotBasis k left v)) (sym h.3)
  beside-gives (Err (faults.TooLarge k seen)) h =
      let are = h.0 in
      let before = h.1 in
      stops are k before (refusals.TooLargeRule k (limit + 1))
      (path-passes limit c parts.design moves.rows are.each k
      (left-long c parts valid k before.within) h.3)
      ∙ ap (λ n. Err (refusals.TooLargeRule k n)) (sym h.2)
  beside-gives (Err faults.OutOfMemory) h = tt
