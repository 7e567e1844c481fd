-- A run ends as is computed. A normal form is computed by its own trace, which is no longer than
-- its class has members; so each look adds what is computed, and the run goes on with the same
-- rules.
use Rattle.std.proofs.Common.{Bool, List, None, Option, Some, [], ap, arith, cond, false, inl, inr, length, not, refl, slice_get, subst, suc, sym, true, zero, ℕ, ◌++◌, ◌+◌, ◌∙◌, ◌∷◌, ◌≡◌, ◌≤◌}
use Rattle.std.specs.List.{find, position_or_len}
use Rattle.std.specs.Option.{option_map, option_map_or}
use Rattle.std.specs.Ordering.{ordering_reverse}
use Rattle.std.specs.declared.cmp.Ordering.{Ordering}
use Rattle.std.specs.declared.cmp.Ordering.TheVariants.{Equal, Greater, Less}
use Rattle.mb_certificate.proofs.LineFaults.{is-light, light-is}
use Rattle.mb_certificate.specs.FirstFault.{is_light}
use Rattle.mb_completion.proofs.FromClasses.{sides_alike}
use Rattle.mb_completion.proofs.Looks.{fit, look_valid, ordered}
use Rattle.mb_completion.proofs.Reducing.{leads-same}
use Rattle.mb_completion.specs.Outcome.{at_pair, look_adds, lowered, lowered_by, normal_form, outcome_from, rule_between}
use Rattle.mb_completion.specs.Run.{Adds, IsLook, Outcome, Runs, TooHeavy, Unfinished}
use Rattle.mb_matrix.specs.Fiber.{AreColumns, fill, margins}
use Rattle.mb_matrix.specs.Matrix.{Design, IsDesign}
use Rattle.mb_order.proofs.PeakLaws.{old_places, sides-get}
use Rattle.mb_order.proofs.StepLaws.{step-makes}
use Rattle.mb_order.specs.Monomial.{Monomial}
use Rattle.mb_order.specs.Order.{IsOrder}
use Rattle.mb_order.specs.Peak.{peak, shared_pairs, sides_of}
use Rattle.mb_order.specs.Rewriting.{AreValid, Rule, made}
use Rattle.mb_order.specs.Weight.{IsLight, symbols_of}
use Rattle.mb_order.specs.declared.order.Order.{Order}
use Rattle.mb_rules.proofs.Confluence.{rank, rank_within, step_lowers, step_wide}
use Rattle.mb_rules.proofs.NormalForms.{has_normal, normal-leads}
use Rattle.mb_rules.specs.NormalForm.{NormalBy}
use Rattle.mb_rules.specs.RuleList.{ValidRules, cmp_of}
use Rattle.mb_tables.specs.Vectors.{within}

-- the first element that passes a test stands at the place of the first one
find-here : {X : Type 0} (t : Bool) (x : X) (xs : List X) (rest : Option X) (n : ℕ) →
    rest ≡ slice_get xs n →
    cond t (Some x) rest ≡ slice_get (x ∷ xs) (cond (not t) (1 + n) 0)
find-here true x xs rest n e = refl
find-here false x xs rest n e =
    let more : 1 + n ≡ suc n = omega arith in e ∙ ap (slice_get (x ∷ xs)) (sym more)

find-place : {X : Type 0} (test : X → Bool) (xs : List X) →
    find test xs ≡ slice_get xs (position_or_len test xs)
find-place test [] = refl
find-place test (x ∷ xs) =
    find-here (test x) x xs (find test xs) (position_or_len test xs) (find-place test xs)

-- past its end a list has nothing
pub none-at-end : {X : Type 0} (xs : List X) → slice_get xs (length xs) ≡ None
none-at-end [] = refl
none-at-end (x ∷ xs) = none-at-end xs

module _ (d : ℕ) (columns : List (List ℕ)) (compare : Monomial → Monomial →
    Ordering) (rules : List Rule) (fits : AreColumns d columns)
    (order : IsOrder (length columns) compare) (valid : AreValid d columns compare rules) where
  -- where a rule is the first that fits, it is what lowers the monomial
  pub lowered-at : (m : Monomial) (k : ℕ) →
      position_or_len (λ (rule : Rule). within rule.0 m) rules ≡ k →
      lowered rules m ≡ option_map (λ (rule : Rule). made rule m) (slice_get rules k)
  lowered-at m k e =
      ap (option_map (λ (rule : Rule). made rule m))
      (find-place (λ (rule : Rule). within rule.0 m) rules ∙ ap (slice_get rules) e)

  -- a monomial is lowered along its trace, if there are as many steps
  lowered-along : (trace : List ℕ) (steps : ℕ) (m p : Monomial) → length m ≡ length columns →
      NormalBy rules trace m p → length trace ≤ steps → lowered_by steps rules m ≡ p
  unfolding NormalBy lowered_by
  lowered-along [] zero m p w h l = h.1
  lowered-along [] (suc steps) m p w h l =
      let ends : lowered rules m ≡ None =
      lowered-at m (length rules) h.0
      ∙ ap (option_map (λ (rule : Rule). made rule m)) (none-at-end rules) in
      ap (λ o. option_map_or (λ next. lowered_by steps rules next) o m) ends ∙ h.1
  lowered-along (k ∷ trace) zero m p w h l = absurd (omega (arith, l))
  lowered-along (k ∷ trace) (suc steps) m p w h l =
      let s = h.2 in
      let v = valid k s.0 s.2 in
      let wide = step_wide d columns compare rules fits order valid k m h.0 s w in
      let next : lowered rules m ≡ Some h.0 =
      lowered-at m k h.1 ∙ ap (option_map (λ (rule : Rule). made rule m)) s.2
      ∙ ap (λ x. Some x)
      (sym (step-makes rules k s.0 s.2 m h.0 (wide ∙ sym w) (v.right_wide ∙ sym w) s)) in
      ap (λ o. option_map_or (λ next. lowered_by steps rules next) o m) next
      ∙ lowered-along trace steps h.0 p wide h.3 (omega (arith, l))

  -- a trace is no longer than the rank
  pub trace-short : (trace : List ℕ) (m p : Monomial) → length m ≡ length columns →
      NormalBy rules trace m p → length trace ≤ rank d columns compare m
  unfolding NormalBy
  trace-short [] m p w h = omega arith
  trace-short (k ∷ trace) m p w h =
      let wide = step_wide d columns compare rules fits order valid k m h.0 h.2 w in
      let rest = trace-short trace h.0 p wide h.3 in
      let low = step_lowers d columns compare rules fits order valid k m h.0 h.2 w in
      omega (arith, rest, low)

  -- so a monomial is lowered to its normal form
  pub lowered-normal : (trace : List ℕ) (m p : Monomial) → length m ≡ length columns →
      NormalBy rules trace m p →
      lowered_by (length (fill columns (margins d columns m))) rules m ≡ p
  lowered-normal trace m p w h =
      let short = trace-short trace m p w h in
      let few = rank_within d columns compare m in
      lowered-along trace (length (fill columns (margins d columns m))) m p w h
      (omega (arith, short, few))

module _ (matrix : Design) (order : Order) (are : IsDesign matrix) where
  -- the normal form of a monomial is one by some trace, and as wide
  pub form-normal : (rules : List Rule) → ValidRules order matrix rules → (m : Monomial) →
      length m ≡ length (symbols_of matrix) →
      ((trace : List ℕ) × NormalBy rules trace m (normal_form matrix rules m))
      × (length (normal_form matrix rules m) ≡ length (symbols_of matrix))
  unfolding normal_form
  form-normal rules valid m w =
      let d = matrix.rows in
      let columns = symbols_of matrix in
      let compare = cmp_of order matrix in
      let f = fit matrix order are in
      let o = ordered matrix order are in
      let has = has_normal d columns compare rules f o valid m w in
      let same = lowered-normal d columns compare rules f o valid has.0 m has.1 w has.2 in
      let leads = (normal-leads d columns compare rules f o valid has.0 m has.1 has.2).0 in
      let wide = (leads-same d columns compare f o rules valid has.0 m has.1 w leads).0 in (
        (has.0, subst (NormalBy rules has.0 m) (sym same) has.2),
        ap length same ∙ wide,
      )

  -- what is between two monomials is what they add
  between-adds : (p q : Monomial) → length p ≡ length (symbols_of matrix) →
      length q ≡ length (symbols_of matrix) →
      Adds (cmp_of order matrix) p q (rule_between (cmp_of order matrix p q) p q)
  between-adds p q pw qw = by (cmp_of order matrix p q) refl
    where
      by : (o : Ordering) → cmp_of order matrix p q ≡ o →
          Adds (cmp_of order matrix) p q (rule_between o p q)
      by Less e =
          inr (inr ((ordered matrix order are).total.antisymm q p ∙ ap ordering_reverse e, refl))
      by Equal e = inl ((ordered matrix order are).definite p q pw qw e, refl)
      by Greater e = inr (inl (e, refl))

  -- a look at a pair whose peak is light adds what is computed
  look-computed : (rules : List Rule) (i j : ℕ) (low high : Rule) → ValidRules order matrix rules →
      slice_get rules i ≡ Some low → slice_get rules j ≡ Some high →
      IsLight matrix (peak low high) →
      IsLook matrix order rules low high (look_adds matrix order rules low high)
  unfolding look_adds
  look-computed rules i j low high valid f g light =
      let alike =
      sides_alike matrix.rows (symbols_of matrix) (cmp_of order matrix) rules
      (fit matrix order are) valid i j low high f g in
      let p = form-normal rules valid (made low (peak low high)) alike.0 in
      let q = form-normal rules valid (made high (peak low high)) alike.1 in
      record {
        light = light;
        low_trace = (p.0).0;
        high_trace = (q.0).0;
        low_form = normal_form matrix rules (made low (peak low high));
        high_form = normal_form matrix rules (made high (peak low high));
        low_normal = (p.0).1;
        high_normal = (q.0).1;
        adds = between-adds (normal_form matrix rules (made low (peak low high)))
            (normal_form matrix rules (made high (peak low high))) p.1 q.1;
      }

  -- what follows at a pair whose peak is light, and at one whose peak isn't
  abbrev after : ℕ → List Rule → ℕ → Bool → ℕ → ℕ → Outcome
  after budget rules looks light i j =
      cond light
      (outcome_from matrix order budget
      (rules ++ look_adds matrix order rules (sides_of rules i) (sides_of rules j)) (suc looks))
      (TooHeavy i j)

  -- the run ends as is computed
  pub runs-computed : (budget : ℕ) (rules : List Rule) (looks : ℕ) →
      ValidRules order matrix rules →
      Runs matrix order budget rules looks (outcome_from matrix order budget rules looks)
  unfolding Runs outcome_from
  runs-computed zero rules looks valid = by (slice_get (shared_pairs rules) looks) refl
    where
      by : (next : Option (ℕ × ℕ)) → slice_get (shared_pairs rules) looks ≡ next →
          Runs matrix order zero rules looks
          (at_pair rules looks (λ i j. Unfinished looks i j) next)
      by None e = inl (e, refl)
      by (Some pair) e = inr (pair.0, pair.1, e, refl)
  runs-computed (suc budget) rules looks valid =
      by (slice_get (shared_pairs rules) looks) refl (runs-computed budget)
    where
      ends : (i j : ℕ) → slice_get (shared_pairs rules) looks ≡ Some (i, j) →
          ((more : List Rule) (n : ℕ) → ValidRules order matrix more →
          Runs matrix order budget more n (outcome_from matrix order budget more n)) →
          (light : Bool) →
          is_light matrix (peak (sides_of rules i) (sides_of rules j)) ≡ light →
          Runs matrix order (suc budget) rules looks (after budget rules looks light i j)
      ends i j e on true t =
          let places = old_places rules i j looks e in
          let low = sides_of rules i in
          let high = sides_of rules j in
          let f = sides-get rules i places.0 in
          let g = sides-get rules j places.1 in
          let more = look_adds matrix order rules low high in
          let look = look-computed rules i j low high valid f g
          (light-is matrix (peak low high) t) in
          inr (
            i,
            j,
            low,
            high,
            e,
            f,
            g,
            inr (
              more,
              look,
              on (rules ++ more) (suc looks)
                  (look_valid matrix order are rules i j low high more valid f g look),
            ),
          )
      ends i j e on false t =
          let places = old_places rules i j looks e in
          let low = sides_of rules i in
          let high = sides_of rules j in
          inr (
            i,
            j,
            low,
            high,
            e,
            sides-get rules i places.0,
            sides-get rules j places.1,
            inl (
              λ light. absurd (let s = is-light matrix (peak low high) light in cc),
              refl,
            ),
          )

      by : (next : Option (ℕ × ℕ)) → slice_get (shared_pairs rules) looks ≡ next →
          ((more : List Rule) (n : ℕ) → ValidRules order matrix more →
          Runs matrix order budget more n (outcome_from matrix order budget more n)) →
          Runs matrix order (suc budget) rules looks
          (at_pair rules looks
          (λ i j. after budget rules looks
          (is_light matrix (peak (sides_of rules i) (sides_of rules j))) i j) next)
      by None e on = inl (e, refl)
      by (Some pair) e on =
          ends pair.0 pair.1 e on
          (is_light matrix (peak (sides_of rules pair.0) (sides_of rules pair.1))) refl
