-- A certificate that is made of the reduced basis of a finished run is the one that is computed.
use Rattle.std.proofs.Common.{Bool, List, None, Some, [], ap, arith, false, inl, inr, length, map, not, refl, slice_get, subst, suc, sym, true, zero, ℕ, ℤ, ◌+◌, ◌<◌, ◌∙◌, ◌∷◌, ◌≡◌, ◌≤◌, ◌||◌}
use Rattle.std.proofs.lemmas.List.{length-map}
use Rattle.std.proofs.lemmas.List.Elements.{filter_passes}
use Rattle.std.proofs.lemmas.List.FromFn.{length-range_with_len}
use Rattle.std.proofs.lemmas.List.Sums.{AllPass-from_list_all, list_all-from_AllPass}
use Rattle.std.specs.List.{filter, position_or_len, range_with_len}
use Rattle.std.specs.Option.{option_map, option_map_or}
use Rattle.std.specs.Ordering.{ordering_reverse}
use Rattle.std.specs.declared.cmp.Ordering.{Ordering}
use Rattle.std.specs.declared.cmp.Ordering.TheVariants.{Less}
use Rattle.mb_certificate.proofs.FaultLists.{pairing}
use Rattle.mb_certificate.proofs.LineFaults.{all-at, at-all, read-at}
use Rattle.mb_certificate.specs.Certificate.{Certificate, Join, Path, Start}
use Rattle.mb_certificate.specs.Valid.{IsValid, of_cell, of_column, pair_of}
use Rattle.mb_completion.proofs.Births.{finished_run}
use Rattle.mb_completion.proofs.ComputedRuns.{form-normal, lowered-at, none-at-end, trace-short}
use Rattle.mb_completion.proofs.FinishedCertificates.{made-markov}
use Rattle.mb_completion.proofs.FromClasses.{cell_alike, classes_from_reach, pairs_meet, sides_alike, starts_meet}
use Rattle.mb_completion.proofs.KeptRules.{divisor_same, lowered_kept, undivided}
use Rattle.mb_completion.proofs.Looks.{fit, ordered}
use Rattle.mb_completion.proofs.MinimalLefts.{reduced_all_valid, reduced_reach}
use Rattle.mb_completion.proofs.PeaksOfRun.{kept_peaks, run_light}
use Rattle.mb_completion.proofs.Putting.{put-ascends, put-has, put-old, put-only}
use Rattle.mb_completion.proofs.Reducing.{Less-not_Greater, one_reduced}
use Rattle.mb_completion.proofs.RunToReduced.{kept_reduced, run_reaches}
use Rattle.mb_completion.proofs.ValidMade.{made_valid}
use Rattle.mb_completion.specs.Basis.{IsReducedBasis}
use Rattle.mb_completion.specs.CertificateOf.{certificate_of_basis, certificate_of_run, in_order, is_minimal, join_of, normal_trace, reduced_of, start_at, trace_by, with_form}
use Rattle.mb_completion.specs.Laws.{IsMade, MadeIsOne}
use Rattle.mb_completion.specs.Made.{IsNormalJoin, IsNormalStart, IsNormalTrace, moves_of}
use Rattle.mb_completion.specs.Outcome.{lowered, normal_form}
use Rattle.mb_completion.specs.Run.{AreLightPeaks, Finished, RunEnds}
use Rattle.mb_completion.specs.Start.{births_of}
use Rattle.mb_completion.specs.loops.Kept.{IsKept}
use Rattle.mb_matrix.specs.Fiber.{AreColumns, fill}
use Rattle.mb_matrix.specs.MarkovBasis.{IsMarkovBasis}
use Rattle.mb_matrix.specs.Matrix.{Design, IsDesign, column_at}
use Rattle.mb_order.proofs.ExponentLaws.{within-both}
use Rattle.mb_order.proofs.PeakLaws.{left-is, old_places, sides-get}
use Rattle.mb_order.proofs.StepLaws.{step-makes}
use Rattle.mb_order.specs.Monomial.{Monomial}
use Rattle.mb_order.specs.Order.{IsOrder}
use Rattle.mb_order.specs.Peak.{left_of, peak, shared_pairs, sides_of}
use Rattle.mb_order.specs.Rewriting.{AreValid, Rule, made}
use Rattle.mb_order.specs.Weight.{symbols_of, weights}
use Rattle.mb_order.specs.declared.order.Order.{Order}
use Rattle.mb_rules.proofs.Confluence.{rank_within, step_wide}
use Rattle.mb_rules.proofs.NormalForms.{has_normal}
use Rattle.mb_rules.specs.NormalForm.{NormalBy}
use Rattle.mb_rules.specs.ReducedBasis.{IsMinimalLeft, IsReduction, LeftsAscend}
use Rattle.mb_rules.specs.RuleList.{RuleList, ValidRules, cmp_of}
use Rattle.mb_tables.proofs.ListLaws.{In-filter, In-filter_only, In-map, In-map_range, In-place, place-in, place-within, some_at}
use Rattle.mb_tables.specs.Lists.{In}
use Rattle.mb_tables.specs.Vectors.{within}

-- ---- the reduced basis

-- left sides that ascend are different
apart : (compare : Monomial → Monomial → Ordering) →
    ((x : Monomial) → compare x x ≡ Less → ⊥) → (rules : List Rule) → LeftsAscend compare rules →
    (i j : ℕ) (low high : Rule) → i < j → slice_get rules i ≡ Some low →
    slice_get rules j ≡ Some high → low.0 ≡ high.0 → ⊥
unfolding LeftsAscend
apart compare never [] a i j low high l e f same = cc
apart compare never (r ∷ rs) a i zero low high l e f same = absurd (omega arith)
apart compare never (r ∷ rs) a zero (suc j) low high l e f same =
    let first : r ≡ low = cc in
    let less = a.0 high (place-in rs j high f) in
    never high.0 (subst (λ m. compare m high.0 ≡ Less) (ap (λ (x : Rule). x.0) first ∙ same) less)
apart compare never (r ∷ rs) a (suc i) (suc j) low high l e f same =
    apart compare never rs a.1 i j low high (omega arith) e f same

module _ (compare : Monomial → Monomial → Ordering) where
  -- what stands in order stood before
  order-only : (xs : List Rule) (r : Rule) → In r (in_order compare xs) → In r xs
  unfolding in_order In
  order-only [] r i = i
  order-only (x ∷ xs) r i = elim (put-only compare x (in_order compare xs) r i) [
    | inl j ↦ inr (order-only xs r j)
    | inr e ↦ inl e
  ]

  module _ (wide : ℕ) (order : IsOrder wide compare) where
    -- left sides ascend in order
    order-ascends : (xs : List Rule) → LeftsAscend compare (in_order compare xs)
    unfolding in_order LeftsAscend
    order-ascends [] = tt
    order-ascends (x ∷ xs) =
        put-ascends compare order.total x (in_order compare xs) (order-ascends xs)

    -- and each left side is there
    order-has : (xs : List Rule) → ((r : Rule) → In r xs → length r.0 ≡ wide) → (x : Rule) →
        In x xs → (y : Rule) × In y (in_order compare xs) × (y.0 ≡ x.0)
    unfolding in_order In
    order-has [] long x i = absurd i
    order-has (z ∷ zs) long x (inl e) =
        let h = put-has compare z (in_order compare zs) in
        let same : (h.0).0 ≡ z.0 = elim h.2 [
          | inl f ↦ ap (λ (r : Rule). r.0) f
          | inr g ↦
              order.definite (h.0).0 z.0 (long h.0 (inr (order-only zs h.0 g.0)))
              (long z (inl refl)) g.1
        ] in
        (h.0, h.1, same ∙ ap (λ (r : Rule). r.0) (sym e))
    order-has (z ∷ zs) long x (inr i) =
        let h = order-has zs (λ r j. long r (inr j)) x i in
        (h.0, put-old compare z (in_order compare zs) h.0 h.1, h.2)

-- a test of two that passes, where the first does
second-passes : (a b : Bool) → (not a || b) ≡ true → a ≡ true → b ≡ true
second-passes true b e f = e
second-passes false b e f = cc

-- and passes where the second does whenever the first does
either-passes : (a b : Bool) → (a ≡ true → b ≡ true) → (not a || b) ≡ true
either-passes true b h = h refl
either-passes false b h = refl

module _ (matrix : Design) (order : Order) (rules : List Rule) (design : IsDesign matrix)
    (valid : ValidRules order matrix rules) where
  -- the rules as a list
  abbrev list : RuleList
  list = record { matrix = matrix; order = order; rules = rules }

  -- the test between two rules
  abbrev test : Rule → Rule → Bool
  test rule other = not (within other.0 rule.0) || within rule.0 other.0

  -- a left side has all symbols
  left-wide : (r : Rule) → In r rules → length r.0 ≡ length (symbols_of matrix)
  left-wide r i = let p = In-place rules r i in (valid p.0 r p.1).left_wide

  -- a rule that passes has a minimal left side
  passes-minimal : (k : ℕ) (rule : Rule) → slice_get rules k ≡ Some rule →
      is_minimal rules rule ≡ true → IsMinimalLeft rules (left_of rules k)
  passes-minimal k rule e t =
      undivided list design valid k (place-within rules k rule e) (λ i l w.
      let other = some_at rules i l in
      let a = left-is rules i other.0 other.1 in
      let b = left-is rules k rule e in
      let passes = all-at (λ (r : Rule). test rule r ≡ true) rules i other.0
      (AllPass-from_list_all (test rule) rules t) other.1 in
      let there : within (other.0).0 rule.0 ≡ true =
      ap (λ u. within u rule.0) (sym a) ∙ ap (within (left_of rules i)) (sym b) ∙ w in
      let back = second-passes (within (other.0).0 rule.0)
      (within rule.0 (other.0).0) passes there in
      let long : length (other.0).0 ≡ length rule.0 =
      (valid i other.0 other.1).left_wide ∙ sym (valid k rule e).left_wide in
      a ∙ within-both (other.0).0 rule.0 long there back ∙ sym b)

  -- and one whose left side is minimal passes
  minimal-passes : (k : ℕ) (rule : Rule) → slice_get rules k ≡ Some rule →
      IsMinimalLeft rules rule.0 → is_minimal rules rule ≡ true
  minimal-passes k rule e minimal =
      list_all-from_AllPass (test rule) rules (at-all (λ (r : Rule). test rule r ≡ true) rules
      (λ i other f. either-passes (within other.0 rule.0) (within rule.0 other.0) (λ w.
      let a = left-is rules i other f in
      let b = left-is rules k rule e in
      let same = divisor_same list design valid i k (place-within rules i other f)
      (place-within rules k rule e)
      (ap (λ u. within u (left_of rules k)) a ∙ ap (within other.0) b ∙ w)
      (subst (IsMinimalLeft rules) (sym b) minimal) in
      let equal : other.0 ≡ rule.0 = sym a ∙ same ∙ b in
      ap (within rule.0) equal ∙ ap (λ u. within u rule.0) (sym equal) ∙ w)))

  -- the rules that are put in order
  abbrev chosen : List Rule
  chosen = map (with_form matrix rules) (filter (is_minimal rules) rules)

  -- each is as a reduction keeps them
  chosen-kept : (r : Rule) → In r chosen → IsKept rules r
  chosen-kept r i =
      let m = In-map_range (with_form matrix rules) r (filter (is_minimal rules) rules) i in
      let x = m.0 in
      let p = In-place rules x (In-filter_only (is_minimal rules) x rules m.1) in
      let q = In-place (filter (is_minimal rules) rules) x m.1 in
      let t = all-at (λ (y : Rule). is_minimal rules y ≡ true)
      (filter (is_minimal rules) rules) q.0 x
      (filter_passes (is_minimal rules) rules) q.1 in
      let v = valid p.0 x p.1 in
      let n = form-normal matrix order design rules valid x.1 v.right_wide in
      let kept = lowered_kept list design valid p.0 x x.0 (normal_form matrix rules x.1) p.1
      (passes-minimal p.0 x p.1 t) refl n.0 in
      subst (IsKept rules) (sym m.2) kept

  -- and has all symbols
  chosen-wide : (r : Rule) → In r chosen → length r.0 ≡ length (symbols_of matrix)
  chosen-wide r i =
      let m = In-map_range (with_form matrix rules) r (filter (is_minimal rules) rules) i in
      ap (λ (x : Rule). length x.0) m.2
      ∙ left-wide m.0 (In-filter_only (is_minimal rules) m.0 rules m.1)

  -- in order they are a reduction
  reduction : IsReduction rules (reduced_of matrix order rules)
  unfolding reduced_of
  reduction =
      let compare = cmp_of order matrix in
      let kept : (k : ℕ) (rule : Rule) → slice_get (in_order compare chosen) k ≡ Some rule →
      IsKept rules rule =
      λ k rule e. chosen-kept rule
      (order-only compare chosen rule (place-in (in_order compare chosen) k rule e)) in
      record {
        all = λ l minimal.
            (let place = minimal.0 in
            let x : Rule = (l, place.1) in
            let passes = minimal-passes place.0 x place.2 minimal in
            let there = In-filter (is_minimal rules) x rules (place-in rules place.0 x place.2)
            passes in
            let has = order-has compare (length (symbols_of matrix)) (ordered matrix order design)
            chosen chosen-wide (with_form matrix rules x)
            (In-map (with_form matrix rules) x (filter (is_minimal rules) rules) there) in
            let at = In-place (in_order compare chosen) has.0 has.1 in
            (at.0, (has.0).1, at.1 ∙ ap (λ m. let r : Rule = (m, (has.0).1) in Some r) has.2));
        minimal = λ k rule e. (kept k rule e).minimal;
        leads = λ k rule e. (kept k rule e).leads;
        ends = λ k rule e. (kept k rule e).ends;
      }

  -- and ascend
  ascending : LeftsAscend (cmp_of order matrix) (reduced_of matrix order rules)
  unfolding reduced_of
  ascending =
      order-ascends (cmp_of order matrix) (length (symbols_of matrix)) (ordered matrix order design)
      chosen

module _ (matrix : Design) (order : Order) (pairs : ℕ) (final : List Rule) (looks : ℕ)
    (design : IsDesign matrix) (run : RunEnds matrix order pairs (Finished final looks)) where
  -- the rules of a finished run are valid
  final-valid : ValidRules order matrix final
  final-valid = (finished_run matrix order pairs final looks design run).0

  -- what is computed of them is the reduced basis
  pub basis-reduced : IsReducedBasis matrix order (reduced_of matrix order final)
  basis-reduced = record {
    reduced = kept_reduced matrix order design final (reduced_of matrix order final) final-valid
        (run_reaches matrix order design pairs final looks run)
        (reduction matrix order final design final-valid);
    ascending = ascending matrix order final design final-valid;
  }

  -- so the reduced basis is that
  basis-is : (rules : List Rule) → IsReducedBasis matrix order rules →
      rules ≡ reduced_of matrix order final
  basis-is rules basis =
      one_reduced matrix.rows (symbols_of matrix) (cmp_of order matrix) (fit matrix order design)
      (ordered matrix order design) rules (reduced_of matrix order final) basis.reduced
      basis.ascending basis-reduced.reduced basis-reduced.ascending

  -- its peaks are light, as those of the run are
  basis-peaks : AreLightPeaks matrix (reduced_of matrix order final)
  basis-peaks =
      kept_peaks matrix final (reduced_of matrix order final)
      (run_light matrix order pairs (births_of matrix) 0 final looks
      (λ k p l e. absurd (omega arith)) run)
      (λ i j low high l f g e. absurd (apart (cmp_of order matrix)
      (λ x less. Less-not_Greater (sym less ∙ (ordered matrix order design).total.antisymm x x
      ∙ ap ordering_reverse less)) (reduced_of matrix order final)
      basis-reduced.ascending i j low high l f g e))
      (reduction matrix order final design final-valid)

-- ---- what is made of it

-- an element of a list of values is the value of the one at its place
mapped-at : {X Y : Type 0} (f : X → Y) (xs : List X) (k : ℕ) (y : Y) →
    slice_get (map f xs) k ≡ Some y → (x : X) × (slice_get xs k ≡ Some x) × (y ≡ f x)
mapped-at f [] k y e = cc
mapped-at f (x ∷ xs) zero y e = (x, refl, cc)
mapped-at f (x ∷ xs) (suc k) y e = mapped-at f xs k y e

-- the number at a place of a range
number-at : (a n k x : ℕ) → slice_get (range_with_len a n) k ≡ Some x → x ≡ a + k
number-at a zero k x e = cc
number-at a (suc n) zero x e = let here : a ≡ x = cc in omega arith
number-at a (suc n) (suc k) x e = let rest = number-at (a + 1) n k x e in omega arith

-- what values say where they say their elements
keyed-back : {X Y : Type 0} (key : Y → X) (f : X → Y) (xs : List X) →
    ((x : X) → key (f x) ≡ x) → map key (map f xs) ≡ xs
keyed-back key f [] own = refl
keyed-back key f (x ∷ xs) own =
    let first = own x in
    let rest = keyed-back key f xs own in cc

-- elements that are the values of what they say are the values of that
keyed : {X Y : Type 0} (key : Y → X) (f : X → Y) (ys : List Y) →
    ((k : ℕ) (y : Y) → slice_get ys k ≡ Some y → y ≡ f (key y)) → ys ≡ map f (map key ys)
keyed key f [] each = refl
keyed key f (y ∷ ys) each =
    let first = each 0 y refl in
    let rest = keyed key f ys (λ k z e. each (suc k) z e) in cc

-- elements that are the values of their places
placed : {Y : Type 0} (f : ℕ → Y) (j : ℕ) (ys : List Y) →
    ((k : ℕ) (y : Y) → slice_get ys k ≡ Some y → y ≡ f (j + k)) →
    ys ≡ map f (range_with_len j (length ys))
placed f j [] each = refl
placed f j (y ∷ ys) each =
    let here : j + 0 ≡ j = omega arith in
    let first = each 0 y refl ∙ ap f here in
    let rest = placed f (j + 1) ys (λ k z e.
    let next : j + suc k ≡ j + 1 + k = omega arith in each (suc k) z e ∙ ap f next) in cc

module _ (d : ℕ) (columns : List (List ℕ)) (compare : Monomial → Monomial →
    Ordering) (rules : List Rule) (fits : AreColumns d columns)
    (order : IsOrder (length columns) compare) (valid : AreValid d columns compare rules) where
  -- a trace is computed where it has no more steps
  traced-along : (trace : List ℕ) (steps : ℕ) (m p : Monomial) → length m ≡ length columns →
      NormalBy rules trace m p → length trace ≤ steps → trace_by steps rules m ≡ trace
  unfolding NormalBy trace_by
  traced-along [] zero m p w h l = refl
  traced-along [] (suc steps) m p w h l =
      let place = position_or_len (λ (rule : Rule). within rule.0 m) rules in
      let ends : lowered rules m ≡ None =
      lowered-at d columns compare rules fits order valid m (length rules) h.0
      ∙ ap (option_map (λ (rule : Rule). made rule m)) (none-at-end rules) in
      ap (λ o. option_map_or (λ next. place ∷ trace_by steps rules next) o []) ends
  traced-along (k ∷ trace) zero m p w h l = absurd (omega (arith, l))
  traced-along (k ∷ trace) (suc steps) m p w h l =
      let s = h.2 in
      let v = valid k s.0 s.2 in
      let place = position_or_len (λ (rule : Rule). within rule.0 m) rules in
      let wide = step_wide d columns compare rules fits order valid k m h.0 s w in
      let next : lowered rules m ≡ Some h.0 =
      lowered-at d columns compare rules fits order valid m k h.1
      ∙ ap (option_map (λ (rule : Rule). made rule m)) s.2
      ∙ ap (λ x. Some x)
      (sym (step-makes rules k s.0 s.2 m h.0 (wide ∙ sym w) (v.right_wide ∙ sym w) s)) in
      ap (λ o. option_map_or (λ next. place ∷ trace_by steps rules next) o []) next
      ∙ ap (λ n. n ∷ trace_by steps rules h.0) h.1
      ∙ ap (λ t. k ∷ t) (traced-along trace steps h.0 p wide h.3 (omega (arith, l)))

module _ (matrix : Design) (order : Order) (rules : List Rule) (design : IsDesign matrix)
    (valid : ValidRules order matrix rules) where
  -- the trace of a normal form is the computed one
  trace-is : (trace : List ℕ) (m : Monomial) → length m ≡ length (symbols_of matrix) →
      IsNormalTrace rules trace m → trace ≡ normal_trace matrix rules m
  unfolding normal_trace
  trace-is trace m w h =
      let d = matrix.rows in
      let columns = symbols_of matrix in
      let compare = cmp_of order matrix in
      let f = fit matrix order design in
      let o = ordered matrix order design in
      let short = trace-short d columns compare rules f o valid trace m h.0 w h.1 in
      let few = rank_within d columns compare m in
      sym (traced-along d columns compare rules f o valid trace
      (length (fill columns (weights matrix m))) m h.0 w h.1 (omega (arith, short, few)))

-- a start of these traces
same-start : (start : Start) (margin cell : List ℕ) → start.margin_steps ≡ margin →
    start.cell_steps ≡ cell → start ≡ record { margin_steps = margin; cell_steps = cell }
same-start start margin cell e f =
    ap (λ t. let s : Start = record { margin_steps = t; cell_steps = start.cell_steps } in s) e
    ∙ ap (λ t. let s : Start = record { margin_steps = margin; cell_steps = t } in s) f

-- a join of these traces
same-join : (join : Join) (low high : List ℕ) → join.low_steps ≡ low → join.high_steps ≡ high →
    join ≡ record { low = join.low; high = join.high; low_steps = low; high_steps = high }
same-join join low high e f =
    ap (λ t. let j : Join = record {
      low = join.low;
      high = join.high;
      low_steps = t;
      high_steps = join.high_steps;
    } in j) e
    ∙ ap (λ t. let j : Join = record {
      low = join.low;
      high = join.high;
      low_steps = low;
      high_steps = t;
    } in j) f

module _ (c : Certificate) (design : IsDesign c.matrix)
    (valid : ValidRules c.order c.matrix c.rules) (made-of : IsMade c) where
  -- the start at a cell is the computed one
  start-is : (j : ℕ) (start : Start) → slice_get c.starts j ≡ Some start →
      start ≡ start_at c.matrix c.rules j
  start-is j start e =
      let n = made-of.starts.normal j start e in
      let cells = made-of.starts.each_cell in
      let within = place-within c.starts j start e in
      let column = some_at c.matrix.columns j (omega arith) in
      let at : column_at c.matrix j ≡ column.0 = read-at c.matrix.columns j column.0 [] column.1 in
      let alike = cell_alike c.matrix.rows c.matrix.columns j column.0 design.each column.1 in
      let wide = ap (λ x. length (of_column (length c.matrix.columns) x)) at ∙ alike.0 in
      same-start start
      (normal_trace c.matrix c.rules (of_column (length c.matrix.columns) (column_at c.matrix j)))
      (normal_trace c.matrix c.rules (of_cell c.matrix j))
      (trace-is c.matrix c.order c.rules design valid start.margin_steps
      (of_column (length c.matrix.columns) (column_at c.matrix j)) wide n.margin)
      (trace-is c.matrix c.order c.rules design valid start.cell_steps (of_cell c.matrix j) alike.1
      n.cell)

  -- so are all
  starts-are : c.starts ≡ map (start_at c.matrix c.rules)
      (range_with_len 0 (length c.matrix.columns))
  starts-are =
      placed (start_at c.matrix c.rules) 0 c.starts (λ j start e.
      let here : j ≡ 0 + j = omega arith in
      start-is j start e ∙ ap (start_at c.matrix c.rules) here)
      ∙ ap (λ n. map (start_at c.matrix c.rules) (range_with_len 0 n)) made-of.starts.each_cell

  -- a join is the computed one of its pair
  join-is : (k : ℕ) (join : Join) → slice_get c.joins k ≡ Some join →
      join ≡ join_of c.matrix c.rules (pair_of join)
  join-is k join e =
      let low = sides_of c.rules join.low in
      let high = sides_of c.rules join.high in
      let next = pairing pair_of c.joins (shared_pairs c.rules) made-of.joins.all k join e in
      let places = old_places c.rules join.low join.high k next in
      let first = sides-get c.rules join.low places.0 in
      let second = sides-get c.rules join.high places.1 in
      let alike = sides_alike c.matrix.rows (symbols_of c.matrix) (cmp_of c.order c.matrix) c.rules
      (fit c.matrix c.order design) valid join.low join.high low high first second in
      let forms = all-at (IsNormalJoin c.rules) c.joins k join made-of.joins.normal e in
      same-join join (normal_trace c.matrix c.rules (made low (peak low high)))
      (normal_trace c.matrix c.rules (made high (peak low high)))
      (trace-is c.matrix c.order c.rules design valid join.low_steps
      (made low (peak low high)) alike.0
      forms.0)
      (trace-is c.matrix c.order c.rules design valid join.high_steps (made high (peak low high))
      alike.1 forms.1)

  -- so are all
  joins-are : c.joins ≡ map (join_of c.matrix c.rules) (shared_pairs c.rules)
  joins-are =
      keyed pair_of (join_of c.matrix c.rules) c.joins join-is
      ∙ ap (map (join_of c.matrix c.rules)) made-of.joins.all

  -- a certificate with these parts
  abbrev with_parts : List (List ℤ) → List Start → List Join → List Path → Certificate
  with_parts moves starts joins paths = record c {
    moves = moves;
    starts = starts;
    joins = joins;
    paths = paths;
  }

  -- the certificate is the computed one of its rules
  certificate-is : c ≡ certificate_of_basis c.matrix c.order c.rules
  unfolding certificate_of_basis
  certificate-is =
      let moves = moves_of c.matrix.rows c.rules in
      let starts = map (start_at c.matrix c.rules) (range_with_len 0 (length c.matrix.columns)) in
      let joins = map (join_of c.matrix c.rules) (shared_pairs c.rules) in
      ap (λ m. with_parts m c.starts c.joins c.paths) made-of.moves
      ∙ ap (λ s. with_parts moves s c.joins c.paths) starts-are
      ∙ ap (λ j. with_parts moves starts j c.paths) joins-are
      ∙ ap (λ p. with_parts moves starts joins p) made-of.paths

-- the law of made certificates
pub made_one : MadeIsOne
made_one c pairs final looks design run basis made-of =
    let valid = reduced_all_valid c.matrix.rows (symbols_of c.matrix) (cmp_of c.order c.matrix)
    (fit c.matrix c.order design) (ordered c.matrix c.order design) c.rules basis.reduced in
    certificate-is c design valid made-of
    ∙ ap (certificate_of_basis c.matrix c.order)
    (basis-is c.matrix c.order pairs final looks design run c.rules basis)

module _ (matrix : Design) (order : Order) (rules : List Rule) (design : IsDesign matrix)
    (valid : ValidRules order matrix rules) where
  -- the computed trace is that of the normal form
  computed-normal : (m : Monomial) → length m ≡ length (symbols_of matrix) →
      IsNormalTrace rules (normal_trace matrix rules m) m
  computed-normal m w =
      let has = has_normal matrix.rows (symbols_of matrix) (cmp_of order matrix) rules
      (fit matrix order design) (ordered matrix order design) valid m w in
      let trace : IsNormalTrace rules has.0 m = (has.1, has.2) in
      subst (λ t. IsNormalTrace rules t m)
      (trace-is matrix order rules design valid has.0 m w trace) trace

  -- the computed certificate is made of its rules
  computed-made : IsMade (certificate_of_basis matrix order rules)
  unfolding certificate_of_basis
  computed-made = record {
    moves = refl;
    starts = record {
      each_cell = length-map (range_with_len 0 (length matrix.columns)) (start_at matrix rules)
          ∙ length-range_with_len 0 (length matrix.columns);
      normal = λ j start e.
          (let at = mapped-at (start_at matrix rules)
          (range_with_len 0 (length matrix.columns)) j start
          e in
          let place = place-within (range_with_len 0 (length matrix.columns)) j at.0 at.1 in
          let long = length-range_with_len 0 (length matrix.columns) in
          let same : 0 + j ≡ j = omega arith in
          let cell : at.0 ≡ j = number-at 0 (length matrix.columns) j at.0 at.1 ∙ same in
          let column = some_at matrix.columns j (omega arith) in
          let here : column_at matrix j ≡ column.0 =
          read-at matrix.columns j column.0 [] column.1 in
          let alike = cell_alike matrix.rows matrix.columns j column.0 design.each column.1 in
          subst (IsNormalStart matrix rules j)
          (sym (at.2 ∙ ap (start_at matrix rules) cell))
          (record {
            margin = computed-normal (of_column (length matrix.columns) (column_at matrix j))
                (ap (λ x. length (of_column (length matrix.columns) x)) here ∙ alike.0);
            cell = computed-normal (of_cell matrix j) alike.1;
          }));
    };
    joins = record {
      all = keyed-back pair_of (join_of matrix rules) (shared_pairs rules) (λ pair. refl);
      normal = at-all (IsNormalJoin rules) (map (join_of matrix rules) (shared_pairs rules))
          (λ k join e.
          let at = mapped-at (join_of matrix rules) (shared_pairs rules) k join e in
          let pair = at.0 in
          let low = sides_of rules pair.0 in
          let high = sides_of rules pair.1 in
          let places = old_places rules pair.0 pair.1 k at.1 in
          let alike = sides_alike matrix.rows (symbols_of matrix) (cmp_of order matrix) rules
          (fit matrix order design) valid pair.0 pair.1 low high (sides-get rules pair.0 places.0)
          (sides-get rules pair.1 places.1) in
          subst (IsNormalJoin rules) (sym at.2) (
            computed-normal (made low (peak low high)) alike.0,
            computed-normal (made high (peak low high)) alike.1,
          ));
    };
    paths = refl;
  }

-- the computed certificate of a finished run has the reduced basis, it is valid, and its moves are
-- a Markov basis
pub run_certified : (matrix : Design) (order : Order) (pairs : ℕ) (final : List Rule) (looks : ℕ) →
    IsDesign matrix → RunEnds matrix order pairs (Finished final looks) →
    IsReducedBasis matrix order (reduced_of matrix order final)
    × IsValid (certificate_of_run matrix order final)
    × IsMarkovBasis matrix (moves_of matrix.rows (reduced_of matrix order final))
unfolding certificate_of_basis
run_certified matrix order pairs final looks design run =
    let rules = reduced_of matrix order final in
    let basis = basis-reduced matrix order pairs final looks design run in
    let peaks = basis-peaks matrix order pairs final looks design run in
    let all = symbols_of matrix in
    let compare = cmp_of order matrix in
    let f = fit matrix order design in
    let o = ordered matrix order design in
    let valid = reduced_all_valid matrix.rows all compare f o rules basis.reduced in
    let meet = classes_from_reach matrix.rows all compare rules f o
    (reduced_reach matrix.rows all compare f o rules basis.reduced) in (
      basis,
      made_valid (certificate_of_run matrix order final) design basis peaks
          (computed-made matrix order rules design valid),
      made-markov matrix order rules design valid
          (pairs_meet matrix.rows all compare rules f valid meet)
          (starts_meet matrix.rows matrix.columns rules design.each meet) peaks,
    )
