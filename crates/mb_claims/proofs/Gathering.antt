-- A gathering keeps the rule.
use Rattle.std.proofs.Common.{List, arith, eqb, inl, inr, not, refl, set, subst, sym, ℕ, ◌+◌, ◌∙◌, ◌≡◌, ◌≢◌, ◌⊎◌, ⊎_elim}
use Rattle.std.proofs.lemmas.Bool.{ne_eqb, not_from_false}
use Rattle.std.specs.List.{sum_by}
use Rattle.atomic_table.proofs.Lists.{at_set, set_else, set_here}
use Rattle.atomic_table.specs.Table.{Joins}
use Rattle.mb_claims.proofs.Occurrences.{AreDistinctKeys-filter, occurrences-append}
use Rattle.mb_claims.proofs.RootSteps.{opened_there, root_or_pass, root_seat}
use Rattle.mb_claims.proofs.SeatSums.{at_is, sum_by-put}
use Rattle.mb_claims.proofs.ViewSteps.{AreKeys-set, AreNoted-set, AreSized-set}
use Rattle.mb_claims.specs.ClaimRule.{AreCounted, AreNoted, AreOpened, AreSized, IsClaimed, Knows}
use Rattle.mb_claims.specs.ClaimStep.{gathered_root, gathers}
use Rattle.mb_claims.specs.Lists.{AreDistinctKeys, occurrences}
use Rattle.mb_claims.specs.View.{keys_of}
use Rattle.mb_claims.specs.declared.views.PassView.{PassView}
use Rattle.mb_claims.specs.declared.views.RootView.{RootView}
use Rattle.mb_claims.specs.declared.views.View.{View}
use Rattle.mb_claims.specs.declared.views.View.TheVariants.{OfPass, OfRoot, Spent}
use Rattle.mb_tables.proofs.ListLaws.{In-cases, In-filter, In-filter_only}
use Rattle.mb_tables.specs.Lists.{In}

module _ (sizes words : List ℕ) (views : List View) (rule : IsClaimed sizes words views)
    (seat : ℕ) (root : RootView) (at : Knows views seat (OfRoot root))
    (other : ℕ) (pass : PassView) (apart : other ≢ seat)
    (there : Knows (set views seat (OfRoot (gathers root pass))) other (OfPass pass)) where
  -- the pass was there before the root took it over
  pass_there : Knows views other (OfPass pass)
  pass_there = sym (set_else views seat other (OfRoot (gathers root pass)) apart) ∙ there

  -- the views with the root's new one
  abbrev taken_over : List View
  taken_over = set views seat (OfRoot (gathers root pass))

  -- the views after a gathering
  abbrev pub joined : List View
  joined = set taken_over other Spent

  -- a view after a gathering: the spent one, the root's, or one of before
  joined_cases : (third : ℕ) (view : View) → Knows joined third view →
      ((third ≡ other) × (Spent ≡ view))
      ⊎ ((third ≢ other)
      × (((third ≡ seat) × (OfRoot (gathers root pass) ≡ view)) ⊎ Knows views third view))
  joined_cases third view k = ⊎_elim
      (λ t. inl t)
      (λ t. ⊎_elim
      (λ r. inr (t.0, inl r))
      (λ r. inr (t.0, inr r.1))
      (at_set views seat third (OfRoot (gathers root pass)) view t.1))
      (at_set taken_over other third Spent view k)

  -- a pass after a gathering is another one of before
  joined_pass : (third : ℕ) (p : PassView) → Knows joined third (OfPass p) →
      (third ≢ other) × Knows views third (OfPass p)
  joined_pass third p k = ⊎_elim
      (λ t. let clash : Spent ≡ OfPass p = t.1 in absurd cc)
      (λ t. ⊎_elim
      (λ r. absurd (root_or_pass (gathers root pass) p r.1))
      (λ r. (t.0, r))
      t.1)
      (joined_cases third (OfPass p) k)

  -- it has another number
  stays_open : (third : ℕ) (p : PassView) → third ≢ other → Knows views third (OfPass p) →
      In p.number (gathers root pass).opened
  stays_open third p ne k =
      In-filter (λ n. not (eqb n pass.number)) p.number root.opened
      (opened_there views seat root rule.numbered at third p k)
      (not_from_false (eqb p.number pass.number) (ne_eqb p.number pass.number
      (λ e. ne (rule.numbered.own third other p pass k pass_there e))))

  -- the numbers meet the rule
  joined_numbered : AreOpened joined
  joined_numbered =
      let here = root_seat views seat root rule.numbered at in
      let wide = (at_is views seat (OfRoot root) (OfRoot root) at).0 in
      record {
        seat = seat;
        root = gathers root pass;
        there =
            set_else taken_over other seat Spent (λ e. apart (sym e))
            ∙ set_here views seat (OfRoot (gathers root pass)) wide;
        only = λ third view k. ⊎_elim
            (λ t. let clash : Spent ≡ OfRoot view = t.1 in absurd cc)
            (λ t. ⊎_elim
            (λ r. r.0)
            (λ r. rule.numbered.only third view r ∙ sym here.0)
            t.1)
            (joined_cases third (OfRoot view) k);
        above = λ i. rule.numbered.above (subst (λ (r : RootView). In 0 r.opened) here.1
            (In-filter_only (λ n. not (eqb n pass.number)) 0 root.opened i));
        distinct = AreDistinctKeys-filter (λ n. not (eqb n pass.number)) root.opened
            (subst (λ (r : RootView). AreDistinctKeys r.opened) (sym here.1)
            rule.numbered.distinct);
        open_pass = λ third p k. let t = joined_pass third p k in stays_open third p t.0 t.1;
        own = λ one two v w k l e.
            rule.numbered.own one two v w (joined_pass one v k).1 (joined_pass two w l).1 e;
      }

  -- so do the sizes
  joined_sized : AreSized sizes words joined
  joined_sized =
      AreSized-set sizes words words taken_over other Spent refl tt
      (AreSized-set sizes words words views seat (OfRoot (gathers root pass)) refl
      (rule.sized.shared seat (OfRoot root) at) rule.sized)

  -- the notes
  joined_noted : AreNoted words joined
  unfolding In
  joined_noted =
      AreNoted-set words words taken_over other Spent (λ q k h. h) (λ n i. absurd i)
      (AreNoted-set words words views seat (OfRoot (gathers root pass)) (λ q k h. h)
      (λ n i. ⊎_elim
      (λ j. rule.noted other (OfPass pass) pass_there n j)
      (λ j. rule.noted seat (OfRoot root) at n j)
      (In-cases n pass.notes root.notes i))
      rule.noted)

  -- and the keys
  joined_counted : AreCounted words joined
  unfolding In
  joined_counted = record {
    keys =
        AreKeys-set taken_over other Spent (λ i. i)
        (AreKeys-set views seat (OfRoot (gathers root pass))
        (λ i. ⊎_elim
        (λ j. rule.counted.keys other (OfPass pass) pass_there j)
        (λ j. rule.counted.keys seat (OfRoot root) at j)
        (In-cases 0 pass.won root.gathered i))
        rule.counted.keys);
    often = λ key pos.
        let f : View → ℕ = λ v. occurrences key (keys_of v) in
        let first = sum_by-put f views seat (OfRoot root) (OfRoot (gathers root pass)) at in
        let second = sum_by-put f taken_over other (OfPass pass) Spent there in
        let both : f (OfRoot (gathers root pass)) ≡ f (OfPass pass) + f (OfRoot root) =
        occurrences-append key pass.won root.gathered in
        let was : sum_by f views ≡ occurrences key words = rule.counted.often key pos in
        let none : f Spent ≡ 0 = refl in
        let a : ℕ = f (OfPass pass) in
        let b : ℕ = f (OfRoot root) in
        let d : ℕ = f (OfRoot (gathers root pass)) in
        let e : ℕ = f Spent in omega arith;
  }

  -- a gathering keeps the rule
  pub gather-kept : IsClaimed sizes words joined
  gather-kept = record {
    sized = joined_sized;
    noted = joined_noted;
    reached = rule.reached;
    once = rule.once;
    counted = joined_counted;
    numbered = joined_numbered;
  }

-- the same of a table of words
pub joins-kept : {S : Type 0} (sizes : List ℕ) (seat other : ℕ) (view second : View)
    (root : RootView) (pass : PassView) → view ≡ OfRoot root → second ≡ OfPass pass →
    Joins {S = S} (λ s. IsClaimed sizes s.words s.views) seat view other second
    (gathered_root view second) Spent
joins-kept {S} sizes seat other view second root pass is it =
    subst (λ v. Joins {S = S} (λ s. IsClaimed sizes s.words s.views) seat v other second
    (gathered_root v second) Spent) (sym is)
    (subst (λ w. Joins {S = S} (λ s. IsClaimed sizes s.words s.views) seat (OfRoot root) other w
    (gathered_root (OfRoot root) w) Spent) (sym it)
    (λ s rule at ne there.
    gather-kept sizes s.words s.views rule seat root at other pass ne there))
