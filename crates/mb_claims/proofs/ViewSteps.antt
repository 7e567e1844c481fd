-- The views after one of them changes.
use Rattle.std.proofs.Common.{List, ap, length, refl, set, subst, sym, ℕ, ◌∙◌, ◌≡◌, ◌≢◌, ⊎_elim}
use mathlib.Core.Option.{some-injective}
use Rattle.atomic_table.proofs.Lists.{at_set, set_else}
use Rattle.mb_claims.specs.ClaimRule.{AreNoted, AreOpened, AreSized, Knows}
use Rattle.mb_claims.specs.Probe.{Holds}
use Rattle.mb_claims.specs.View.{HasSizes, keys_of, notes_of}
use Rattle.mb_claims.specs.declared.views.Note.{Note}
use Rattle.mb_claims.specs.declared.views.PassView.{PassView}
use Rattle.mb_claims.specs.declared.views.View.{View}
use Rattle.mb_claims.specs.declared.views.View.TheVariants.{OfPass, OfRoot}
use Rattle.mb_tables.specs.Lists.{In}

-- two views that one seat has are the same
pub knows_one : (views : List View) (seat : ℕ) (one other : View) →
    Knows views seat one → Knows views seat other → one ≡ other
knows_one views seat one other h k = some-injective one other (sym h ∙ k)

-- two equal views of passes are of one pass
pub pass_same : (one other : PassView) → OfPass one ≡ OfPass other → one ≡ other
pass_same one other e = cc

module _ (views : List View) (seat : ℕ) (pass new : PassView) (at : Knows views seat (OfPass pass))
    (same : new.number ≡ pass.number) where
  -- after the view of a pass changed and kept its number, each pass has the number of a pass that
  -- had its seat before
  was_pass : (other : ℕ) (v : PassView) → Knows (set views seat (OfPass new)) other (OfPass v) →
      (was : PassView) × Knows views other (OfPass was) × (was.number ≡ v.number)
  was_pass other v k = ⊎_elim
      (λ t. (
        pass,
        subst (λ s. Knows views s (OfPass pass)) (sym t.0) at,
        sym same ∙ ap (λ (p : PassView). p.number) (pass_same new v t.1),
      ))
      (λ t. (v, t.1, refl))
      (at_set views seat other (OfPass new) (OfPass v) k)

  -- so the rule of the numbers is kept
  pub AreOpened-pass : AreOpened views → AreOpened (set views seat (OfPass new))
  AreOpened-pass h = record {
    seat = h.seat;
    root = h.root;
    there =
        let other : h.seat ≢ seat = λ e.
        let two : Knows views seat (OfRoot h.root) =
        subst (λ s. Knows views s (OfRoot h.root)) e h.there in
        let clash : OfPass pass ≡ OfRoot h.root = knows_one views seat _ _ at two in cc in
        set_else views seat h.seat (OfPass new) other ∙ h.there;
    only = λ other view k. ⊎_elim
        (λ t. let clash : OfPass new ≡ OfRoot view = t.1 in absurd cc)
        (λ t. h.only other view t.1)
        (at_set views seat other (OfPass new) (OfRoot view) k);
    above = h.above;
    distinct = h.distinct;
    open_pass = λ other v k.
        let w = was_pass other v k in
        subst (λ n. In n h.root.opened) w.2 (h.open_pass other w.0 w.1);
    own = λ one other v w k l e.
        let a = was_pass one v k in
        let b = was_pass other w l in h.own one other a.0 b.0 a.1 b.1 (a.2 ∙ e ∙ sym b.2);
  }

-- the sizes after one view changed
pub AreSized-set : (sizes words new_words : List ℕ) (views : List View) (seat : ℕ) (new : View) →
    length new_words ≡ length words → HasSizes sizes new →
    AreSized sizes words views → AreSized sizes new_words (set views seat new)
AreSized-set sizes words new_words views seat new same has h = record {
  total = same ∙ h.total;
  shared = λ other view k. ⊎_elim
      (λ t. subst (HasSizes sizes) t.1 has)
      (λ t. h.shared other view t.1)
      (at_set views seat other new view k);
}

-- the notes after one view changed, where those of the others still stand
pub AreNoted-set : (words new_words : List ℕ) (views : List View) (seat : ℕ) (new : View) →
    ((place key : ℕ) → Holds words place key → Holds new_words place key) →
    ((n : Note) → In n (notes_of new) → Holds new_words n.place n.key) →
    AreNoted words views → AreNoted new_words (set views seat new)
AreNoted-set words new_words views seat new kept stand h other view k n i = ⊎_elim
    (λ t. stand n (subst (λ v. In n (notes_of v)) (sym t.1) i))
    (λ t. kept n.place n.key (h other view t.1 n i))
    (at_set views seat other new view k)

-- the keys after one view changed
pub AreKeys-set : (views : List View) (seat : ℕ) (new : View) → (In 0 (keys_of new) → ⊥) →
    ((other : ℕ) (view : View) → Knows views other view → In 0 (keys_of view) → ⊥) →
    (other : ℕ) (view : View) → Knows (set views seat new) other view → In 0 (keys_of view) → ⊥
AreKeys-set views seat new none h other view k i = ⊎_elim
    (λ t. none (subst (λ v. In 0 (keys_of v)) (sym t.1) i))
    (λ t. h other view t.1 i)
    (at_set views seat other new view k)
