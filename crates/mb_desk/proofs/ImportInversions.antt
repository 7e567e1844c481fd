-- What is known where `import` went through to its answer.
use Rattle.std.proofs.Common.{All, Bool, Err, List, None, Ok, Option, Some, [], ap, arith, cond, drop, false, length, map, nat_eq, nat_lt, refl, subst, suc, sym, true, ℕ, ℤ, ◌∙◌, ◌∷◌, ◌≡◌}
use Rattle.std.proofs.lemmas.Bool.{and_from}
use Rattle.std.proofs.lemmas.Bool.Decides.{nat_tests}
use Rattle.std.proofs.lemmas.List.Elements.{All-cons, All-nil}
use Rattle.std.specs.FinMap.{get}
use Rattle.std.specs.List.{range_with_len}
use Rattle.mb_certificate.proofs.LineFaults.{all-at, move-none}
use Rattle.mb_certificate.proofs.NoFaults.{valid-none}
use Rattle.mb_certificate.proofs.Walking.{walk-joined}
use Rattle.mb_certificate.specs.Certificate.{AreParts, Certificate, Path}
use Rattle.mb_certificate.specs.FirstFault.{first_fault, move_fault}
use Rattle.mb_certificate.specs.Valid.{IsValid, Walks, free_rules, is_free}
use Rattle.mb_certificate.specs.declared.line_fault.Reason.{Reason}
use Rattle.mb_checker.proofs.ValidCertificates.{premises-hold}
use Rattle.mb_desk.proofs.CheckInversions.{judged_ok}
use Rattle.mb_desk.proofs.Fitting.{Fits}
use Rattle.mb_desk.proofs.Inversions.{body_there, guard_ok, says}
use Rattle.mb_desk.proofs.KeptRecords.{kept_fits, kept_means}
use Rattle.mb_desk.proofs.LeastPathLaws.{found-least}
use Rattle.mb_desk.proofs.StoredInversions.{has_basis}
use Rattle.mb_desk.specs.BasisCommand.{certificate_lines}
use Rattle.mb_desk.specs.Changes.{changed}
use Rattle.mb_desk.specs.CheckCommand.{judged}
use Rattle.mb_desk.specs.ImportAnswers.{AnswersImport}
use Rattle.mb_desk.specs.ImportCommand.{all_moves, beside_of, checked_beside, import_added, import_kept, import_plan, imported, moved_on, moves_file, of_one_width, path_by, path_of, paths_of, too_large}
use Rattle.mb_desk.specs.Inputs.{accepted, body_of}
use Rattle.mb_desk.specs.LeastPaths.{least_path}
use Rattle.mb_desk.specs.Recorded.{found}
use Rattle.mb_desk.specs.World.{World}
use Rattle.mb_desk.specs.declared.plans.Plan.{Plan}
use Rattle.mb_desk.specs.declared.refusals.Refusal.TheVariants as refusals
use Rattle.mb_desk.specs.declared.requests.ImportWords.{ImportWords}
use Rattle.mb_matrix.specs.MarkovBasis.{IsMarkovBasis}
use Rattle.mb_matrix.specs.Matrix.{Design, IsMove}
use Rattle.mb_moves.specs.GridText.{moves_of}
use Rattle.mb_order.proofs.PeakLaws.{left-is}
use Rattle.mb_order.specs.MarginFree.{margin_free}
use Rattle.mb_order.specs.Order.{monomial_cmp}
use Rattle.mb_order.specs.Peak.{left_of, right_in, right_of}
use Rattle.mb_paths.proofs.GivenPaths.{beside-valid}
use Rattle.mb_paths.specs.Beside.{AreLeastPaths, AreMovesOf, IsPathOf, left_table, right_table, with_moves}
use Rattle.mb_paths.specs.Between.{ball}
use Rattle.mb_registry.specs.Bodies.{basis_text}
use Rattle.mb_registry.specs.Kinds.{key_of}
use Rattle.mb_registry.specs.Looking.{basis_named}
use Rattle.mb_registry.specs.declared.kinds.Kind.TheVariants.{Basis, Model}
use Rattle.mb_rings.specs.Ring.{reached, rings_of}
use Rattle.mb_rules.proofs.ByMoves.{joined}
use Rattle.mb_rules.specs.Elimination.{PathsJoin}
use Rattle.mb_tables.proofs.ListLaws.{In-filter, In-map_range, In-place, In-range, place-within}
use Rattle.mb_tables.specs.Answers.{◌>>=◌}
use Rattle.mb_tables.specs.Lists.{In}
use Rattle.mb_tables.specs.Rows.{Rows}
use Rattle.mb_text.proofs.RecordSteps.{stepped}
use Rattle.mb_text.specs.Name.{IsName}

-- ---- the paths that were found

module _ (limit : ℕ) (c : Certificate) (moves : List (List ℤ)) where
  -- a path that was found for a rule is the least one
  path_from : (k : ℕ) (path : Path) → path_of limit c moves k ≡ Ok path →
      (path.rule ≡ k) × IsPathOf limit c moves k path.steps
  unfolding path_of
  path_from k path e =
      by
      (least_path moves (length (rings_of c.matrix moves (left_table c k))) (left_table c k)
      (right_table c k)) refl e
    where
      none : (t : Bool) → cond t (too_large limit k)
          (Err (refusals.NotBasis k (left_table c k) (right_table c k))) ≡ Ok path → ⊥
      none true f = cc
      none false f = cc

      some : (p : List ℤ) (t : Bool) →
          nat_lt limit (length (ball c.matrix moves (left_table c k) (length p))) ≡ t →
          least_path moves (length (rings_of c.matrix moves (left_table c k))) (left_table c k)
          (right_table c k) ≡ Some p →
          cond t (too_large limit k) (Ok (record { rule = k; steps = p })) ≡ Ok path →
          (path.rule ≡ k) × IsPathOf limit c moves k path.steps
      some p true f is g = absurd (cc)
      some p false f is g =
          let same : ◌≡◌ {A = Path} (record { rule = k; steps = p }) path = cc in
          subst (λ (x : Path). (x.rule ≡ k) × IsPathOf limit c moves k x.steps) same (
            refl,
            record {
              path = found-least moves (length (rings_of c.matrix moves (left_table c k)))
                  (left_table c k) (right_table c k) p is;
              near = grind (arith, nat_tests);
            },
          )

      by : (o : Option (List ℤ)) →
          least_path moves (length (rings_of c.matrix moves (left_table c k))) (left_table c k)
          (right_table c k) ≡ o →
          path_by limit c moves k o ≡ Ok path →
          (path.rule ≡ k) × IsPathOf limit c moves k path.steps
      by None f g =
          absurd (none (nat_lt limit (length (reached c.matrix moves (left_table c k)))) g)
      by (Some p) f g =
          some p (nat_lt limit (length (ball c.matrix moves (left_table c k) (length p)))) refl f g

  -- so are the paths of all rules
  paths_from : (numbers : List ℕ) (paths : List Path) →
      paths_of limit c moves numbers ≡ Ok paths → AreLeastPaths limit c moves numbers paths
  unfolding paths_of
  paths_from [] paths e =
      let same : ◌≡◌ {A = List Path} [] paths = cc in
      subst (AreLeastPaths limit c moves []) same (record {
        all = refl;
        each = All-nil (λ (x : Path). IsPathOf limit c moves x.rule x.steps);
      })
  paths_from (k ∷ numbers) paths e =
      let a =
      stepped (path_of limit c moves k)
      (λ path. paths_of limit c moves numbers >>= λ more. Ok (path ∷ more)) paths e in
      let b =
      stepped (paths_of limit c moves numbers) (λ more. Ok (a.0 ∷ more)) paths a.2 in
      let one = path_from k a.0 a.1 in
      let rest = paths_from numbers b.0 b.1 in
      let same : ◌≡◌ {A = List Path} (a.0 ∷ b.0) paths = cc in
      subst (AreLeastPaths limit c moves (k ∷ numbers)) same (record {
        all = ap (λ n. n ∷ map (λ (x : Path). x.rule) b.0) one.0 ∙ ap (λ ns. k ∷ ns) rest.all;
        each = All-cons (λ (x : Path). IsPathOf limit c moves x.rule x.steps) a.0 b.0
            (subst (λ n. IsPathOf limit c moves n (a.0).steps) (sym one.0) one.1) rest.each;
      })

  -- by them the moves join the two tables of each margin-free rule
  paths_join : (paths : List Path) →
      AreLeastPaths limit c moves (free_rules c.matrix.rows c.rules) paths →
      PathsJoin c.matrix.rows c.rules moves
  paths_join paths h k rule e free =
      let d = c.matrix.rows in
      let left : left_of c.rules k ≡ rule.0 = left-is c.rules k rule e in
      let right : right_of c.rules k ≡ rule.1 = ap right_in e in
      let passes =
      and_from (margin_free d (left_of c.rules k)) (margin_free d (right_of c.rules k))
      (ap (margin_free d) left ∙ free.0) (ap (margin_free d) right ∙ free.1) in
      let listed =
      In-filter (is_free d c.rules) k (range_with_len 0 (length c.rules))
      (In-range 0 (length c.rules) k (omega arith)
      (let l = place-within c.rules k rule e in omega arith)) passes in
      let found =
      In-map_range (λ (path : Path). path.rule) k paths (subst (In k) (sym h.all) listed) in
      let place = In-place paths found.0 found.1 in
      let path =
      all-at (λ (x : Path). IsPathOf limit c moves x.rule x.steps) paths place.0 found.0 h.each
      place.1 in
      let walks =
      subst (λ j. Walks moves (found.0).steps (left_table c j) (right_table c j)) (sym found.2)
      path.path.leads in
      walk-joined moves (found.0).steps (drop d rule.0) (drop d rule.1)
      (subst (λ m. Walks moves (found.0).steps (drop d rule.0) (drop d m)) right
      (subst (λ m. Walks moves (found.0).steps (drop d m) (right_table c k)) left walks))

-- ---- the moves that were accepted

-- each of them is one of the matrix
moves_from : (matrix : Design) (row : ℕ) (moves : List (List ℤ)) →
    all_moves matrix row moves ≡ Ok tt → All (IsMove matrix) moves
unfolding all_moves
moves_from matrix row [] e = All-nil (IsMove matrix)
moves_from matrix row (move ∷ moves) e =
    by (move_fault matrix move) refl e (λ f. moves_from matrix (suc row) moves f)
  where
    by : (o : Option Reason) → move_fault matrix move ≡ o →
        moved_on row o (all_moves matrix (suc row) moves) ≡ Ok tt →
        (all_moves matrix (suc row) moves ≡ Ok tt → All (IsMove matrix) moves) →
        All (IsMove matrix) (move ∷ moves)
    by None f g rest = All-cons (IsMove matrix) move moves (move-none matrix move f) (rest g)
    by (Some reason) f g rest = absurd (cc)

-- they have its width
width_from : (matrix : Design) (moves : Rows) → of_one_width matrix moves ≡ Ok tt →
    moves.width ≡ length matrix.columns
width_from matrix moves e =
    let a =
    guard_ok (nat_eq moves.width (length matrix.columns))
    (refusals.WidthDiffers (length matrix.columns) moves.width) (Ok tt) tt e in
    let f = a.0 in grind (arith, nat_tests)

-- what is known of moves that were accepted beside a certificate
pub record AreBeside (limit : ℕ) (c : Certificate) (moves : Rows) (new : Certificate) : Type 0 where
  pub are : AreMovesOf c.matrix moves
  pub made : new ≡ with_moves c moves.rows new.paths
  pub least : AreLeastPaths limit c moves.rows (free_rules c.matrix.rows c.rules) new.paths

beside_from : (limit : ℕ) (c : Certificate) (moves : Rows) (new : Certificate) →
    beside_of limit c moves ≡ Ok new → AreBeside limit c moves new
beside_from limit c moves new e =
    let numbers = free_rules c.matrix.rows c.rules in
    let a =
    stepped (of_one_width c.matrix moves)
    (λ width. all_moves c.matrix 1 moves.rows >>= λ each.
    paths_of limit c moves.rows numbers >>= λ paths. Ok (with_moves c moves.rows paths)) new e in
    let b =
    stepped (all_moves c.matrix 1 moves.rows)
    (λ each. paths_of limit c moves.rows numbers >>= λ paths. Ok (with_moves c moves.rows paths))
    new a.2 in
    let d =
    stepped (paths_of limit c moves.rows numbers) (λ paths. Ok (with_moves c moves.rows paths))
    new b.2 in
    let same : with_moves c moves.rows d.0 ≡ new = cc in
    subst (AreBeside limit c moves) same (record {
      are = record {
        width = width_from c.matrix moves a.1;
        each = moves_from c.matrix 1 moves.rows b.1;
      };
      made = refl;
      least = paths_from limit c moves.rows numbers d.0 d.1;
    })

-- moves with such paths are a Markov basis
beside_markov : (limit : ℕ) (c : Certificate) (moves : Rows) (new : Certificate) → AreParts c →
    IsValid c → AreBeside limit c moves new → IsMarkovBasis c.matrix moves.rows
beside_markov limit c moves new parts valid h =
    let premises = premises-hold c valid parts in
    let by_starts = premises.elimination in
    record {
      kept = h.are.each;
      joins = joined c.matrix.rows c.matrix.columns (monomial_cmp c.order c.matrix.rows) c.rules
          moves.rows valid.rules (paths_join limit c moves.rows new.paths h.least) by_starts.0
          by_starts.1 by_starts.2 by_starts.4 by_starts.5;
    }

-- ---- the command

-- the plan fits
pub import_fits : (words : ImportWords) (w : World) (plan : Plan) →
    import_plan words w ≡ Ok plan → Fits plan.change w
import_fits words w plan e =
    let a =
    stepped (moves_file words.moves w.files) (λ moves. import_added words moves w.rows) plan e in
    let b =
    stepped (imported words a.0 w.rows) (λ proved. import_kept words.name proved w.rows) plan a.2 in
    kept_fits Basis words.name (Some (Model, (b.0).0)) (basis_text (b.0).0 (b.0).1)
    (certificate_lines (b.0).1) w plan b.2

-- what is known of a certificate that was proved by moves
pub record IsImported (words : ImportWords) (moves : Rows) (w : World)
    (proved : List ℕ × Certificate) : Type 0 where
  pub named : Certificate
  pub found_there : found (basis_named words.basis) w.rows ≡ Ok (proved.0, named)
  pub there : get w.rows (key_of Basis words.basis) ≡ Some (basis_text proved.0 named)
  pub of_model : IsName proved.0
  pub parts : AreParts named
  pub valid : IsValid named
  pub beside : AreBeside words.limit named moves proved.1
  pub valid_new : IsValid proved.1

pub is_imported : (words : ImportWords) (moves : Rows) (w : World) (proved : List ℕ × Certificate) →
    imported words moves w.rows ≡ Ok proved → IsImported words moves w proved
is_imported words moves w proved e =
    let a =
    stepped (found (basis_named words.basis) w.rows)
    (λ basis. checked_beside words.limit moves basis.1 >>= λ new. Ok (basis.0, new)) proved e in
    let b =
    stepped (checked_beside words.limit moves (a.0).1) (λ new. Ok ((a.0).0, new)) proved a.2 in
    let d = stepped (judged (a.0).1) (λ right. beside_of words.limit right moves) b.0 b.1 in
    let right = judged_ok (a.0).1 d.0 (first_fault (a.0).1) d.1 in
    let has = has_basis w.rows words.basis (a.0).0 (a.0).1 a.1 in
    let read = has.2 in
    let valid = valid-none (a.0).1 read.parts right.1 in
    let beside = subst (λ c. AreBeside words.limit c moves b.0) (sym right.0)
    (beside_from words.limit d.0 moves b.0 d.2) in
    let same : ◌≡◌ {A = List ℕ × Certificate} ((a.0).0, b.0) proved = cc in
    subst (IsImported words moves w) same (record {
      named = (a.0).1;
      found_there = a.1;
      there = has.1 ∙ ap Some read.written;
      of_model = read.named;
      parts = read.parts;
      valid = valid;
      beside = beside;
      valid_new = subst IsValid (sym beside.made)
          (beside-valid words.limit (a.0).1 moves (b.0).paths valid beside.are beside.least);
    })

-- its answer has its meaning
pub import_means : (words : ImportWords) (w : World) (plan : Plan) →
    import_plan words w ≡ Ok plan →
    AnswersImport w (changed plan.change w) words plan.answer
import_means words w plan e =
    let a =
    stepped (moves_file words.moves w.files) (λ moves. import_added words moves w.rows) plan e in
    let b =
    stepped (imported words a.0 w.rows) (λ proved. import_kept words.name proved w.rows) plan a.2 in
    let file =
    stepped (body_of 1 (get w.files words.moves)) (λ text. accepted 1 (moves_of text)) a.0 a.1 in
    let is = is_imported words a.0 w b.0 b.1 in
    record {
      text = file.0;
      moves = a.0;
      there = body_there 1 (get w.files words.moves) file.0 file.1;
      read = says 1 (moves_of file.0) a.0 file.2;
      model = (b.0).0;
      named = is.named;
      named_there = is.there;
      new = (b.0).1;
      made = is.beside.made;
      least = is.beside.least;
      valid = is.valid_new;
      basis = beside_markov words.limit is.named a.0 (b.0).1 is.parts is.valid is.beside;
      kept = kept_means Basis words.name (Some (Model, (b.0).0)) (basis_text (b.0).0 (b.0).1)
          (certificate_lines (b.0).1) w plan b.2;
    }
