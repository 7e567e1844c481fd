-- A split keeps the rule.
use Rattle.std.proofs.Common.{List, [], ap, arith, inl, inr, length, set, subst, sym, ℕ, ◌++◌, ◌∙◌, ◌∷◌, ◌≡◌, ◌⊎◌, ⊎_elim}
use Rattle.std.proofs.lemmas.List.{length-set}
use Rattle.std.proofs.lemmas.List.Sums.{sum_by_push}
use Rattle.std.specs.List.{sum_by}
use Rattle.atomic_table.proofs.Lists.{at_longer, at_set, set_here}
use Rattle.atomic_table.specs.Table.{Splits}
use Rattle.mb_claims.proofs.RootSteps.{fresh-new, opened_there, root_or_pass, root_seat}
use Rattle.mb_claims.proofs.SeatSums.{at_end, at_is, sum_by-put}
use Rattle.mb_claims.proofs.ViewSteps.{pass_same}
use Rattle.mb_claims.specs.ClaimRule.{AreCounted, AreNoted, AreOpened, AreSized, IsClaimed, Knows}
use Rattle.mb_claims.specs.ClaimStep.{begins, fresh, opened_pass, opened_root, opens}
use Rattle.mb_claims.specs.Lists.{AreDistinctKeys, occurrences}
use Rattle.mb_claims.specs.View.{HasSizes, keys_of, notes_of}
use Rattle.mb_claims.specs.declared.views.PassView.{PassView}
use Rattle.mb_claims.specs.declared.views.RootView.{RootView}
use Rattle.mb_claims.specs.declared.views.View.{View}
use Rattle.mb_claims.specs.declared.views.View.TheVariants.{OfPass, OfRoot}
use Rattle.mb_tables.specs.Lists.{In}

module _ (sizes words : List ℕ) (views : List View) (rule : IsClaimed sizes words views)
    (seat : ℕ) (root : RootView) (at : Knows views seat (OfRoot root)) where
  -- the views after a split
  abbrev pub split_views : List View
  split_views = set views seat (OfRoot (opens root)) ++ OfPass (begins root) ∷ []

  -- a view after a split: the new pass's, the root's, or one of before
  split_cases : (other : ℕ) (view : View) → Knows split_views other view →
      ((other ≡ length views) × (OfPass (begins root) ≡ view))
      ⊎ (((other ≡ seat) × (OfRoot (opens root) ≡ view)) ⊎ Knows views other view)
  split_cases other view k = ⊎_elim
      (λ old. ⊎_elim
      (λ t. inr (inl t))
      (λ t. inr (inr t.1))
      (at_set views seat other (OfRoot (opens root)) view old.1))
      (λ new. inl (new.0 ∙ length-set views seat (OfRoot (opens root)), new.1))
      (at_end (set views seat (OfRoot (opens root))) (OfPass (begins root)) view other k)

  -- a pass after a split: the new one, or one of before
  split_pass : (other : ℕ) (pass : PassView) → Knows split_views other (OfPass pass) →
      ((other ≡ length views) × (begins root ≡ pass)) ⊎ Knows views other (OfPass pass)
  split_pass other pass k = ⊎_elim
      (λ new. inl (new.0, pass_same (begins root) pass new.1))
      (λ s. ⊎_elim
      (λ t. absurd (root_or_pass (opens root) pass t.1))
      (λ t. inr t)
      s)
      (split_cases other (OfPass pass) k)

  -- a pass of before has another number than the new one
  not_fresh : (other : ℕ) (pass : PassView) → Knows views other (OfPass pass) →
      fresh root.opened ≡ pass.number → ⊥
  not_fresh other pass k e =
      fresh-new root.opened
      (subst (λ n. In n root.opened) (sym e)
      (opened_there views seat root rule.numbered at other pass k))

  -- no two passes have the same number
  split_own : (one other : ℕ) (v w : PassView) →
      Knows split_views one (OfPass v) → Knows split_views other (OfPass w) →
      v.number ≡ w.number → one ≡ other
  split_own one other v w k l e = ⊎_elim
      (λ new. ⊎_elim
      (λ more. new.0 ∙ sym more.0)
      (λ old. absurd (not_fresh other w old (ap (λ (p : PassView). p.number) new.1 ∙ e)))
      (split_pass other w l))
      (λ old. ⊎_elim
      (λ new. absurd (not_fresh one v old (ap (λ (p : PassView). p.number) new.1 ∙ sym e)))
      (λ more. rule.numbered.own one other v w old more e)
      (split_pass other w l))
      (split_pass one v k)

  -- the numbers meet the rule
  split_numbered : AreOpened split_views
  unfolding In
  split_numbered =
      let here = root_seat views seat root rule.numbered at in
      let wide = (at_is views seat (OfRoot root) (OfRoot root) at).0 in
      record {
        seat = seat;
        root = opens root;
        there = at_longer (set views seat (OfRoot (opens root))) (OfPass (begins root) ∷ []) seat
            (OfRoot (opens root)) (set_here views seat (OfRoot (opens root)) wide);
        only = λ other view k. ⊎_elim
            (λ new. absurd (root_or_pass view (begins root) (sym new.1)))
            (λ s. ⊎_elim
            (λ t. t.0)
            (λ t. rule.numbered.only other view t ∙ sym here.0)
            s)
            (split_cases other (OfRoot view) k);
        above = λ i. ⊎_elim
            (λ (e : 0 ≡ fresh root.opened). omega arith)
            (λ j. rule.numbered.above (subst (λ (r : RootView). In 0 r.opened) here.1 j))
            i;
        distinct = (
          fresh-new root.opened,
          subst (λ (r : RootView). AreDistinctKeys r.opened) (sym here.1) rule.numbered.distinct,
        );
        open_pass = λ other pass k. ⊎_elim
            (λ new. inl (ap (λ (p : PassView). p.number) (sym new.1)))
            (λ old. inr (opened_there views seat root rule.numbered at other pass old))
            (split_pass other pass k);
        own = split_own;
      }

  -- so do the sizes
  split_sized : AreSized sizes words split_views
  split_sized = record {
    total = rule.sized.total;
    shared = λ other view k. ⊎_elim
        (λ new. subst (HasSizes sizes) new.1 (rule.sized.shared seat (OfRoot root) at))
        (λ s. ⊎_elim
        (λ t. subst (HasSizes sizes) t.1 (rule.sized.shared seat (OfRoot root) at))
        (λ t. rule.sized.shared other view t)
        s)
        (split_cases other view k);
  }

  -- the notes
  split_noted : AreNoted words split_views
  unfolding In
  split_noted other view k n i = ⊎_elim
      (λ new. absurd (subst (λ v. In n (notes_of v)) (sym new.1) i))
      (λ s. ⊎_elim
      (λ t. rule.noted seat (OfRoot root) at n (subst (λ v. In n (notes_of v)) (sym t.1) i))
      (λ t. rule.noted other view t n i)
      s)
      (split_cases other view k)

  -- and the keys
  split_counted : AreCounted words split_views
  unfolding In
  split_counted = record {
    keys = λ other view k i. ⊎_elim
        (λ new. absurd (subst (λ v. In 0 (keys_of v)) (sym new.1) i))
        (λ s. ⊎_elim
        (λ t. rule.counted.keys seat (OfRoot root) at (subst (λ v. In 0 (keys_of v)) (sym t.1) i))
        (λ t. rule.counted.keys other view t i)
        s)
        (split_cases other view k);
    often = λ key pos.
        let f : View → ℕ = λ v. occurrences key (keys_of v) in
        let more = sum_by_push f (set views seat (OfRoot (opens root))) (OfPass (begins root)) in
        let same = sum_by-put f views seat (OfRoot root) (OfRoot (opens root)) at in
        let was : sum_by f views ≡ occurrences key words = rule.counted.often key pos in
        let a : ℕ = f (OfRoot root) in omega arith;
  }

  -- a split keeps the rule
  pub split-kept : IsClaimed sizes words split_views
  split-kept = record {
    sized = split_sized;
    noted = split_noted;
    reached = rule.reached;
    once = rule.once;
    counted = split_counted;
    numbered = split_numbered;
  }

-- the same of a table of words
pub splits-kept : {S : Type 0} (sizes : List ℕ) (seat : ℕ) (view : View) (root : RootView) →
    view ≡ OfRoot root →
    Splits {S = S} (λ s. IsClaimed sizes s.words s.views) seat view (opened_root view)
    (opened_pass view)
splits-kept {S} sizes seat view root is =
    subst (λ v. Splits {S = S} (λ s. IsClaimed sizes s.words s.views) seat v (opened_root v)
    (opened_pass v)) (sym is)
    (λ s rule at. split-kept sizes s.words s.views rule seat root at)
