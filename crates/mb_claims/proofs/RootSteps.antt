-- What the rule says of the root, and its seat after a step.
use Rattle.std.proofs.Common.{List, [], ap, arith, subst, suc, sum, sym, ℕ, ◌∙◌, ◌≡◌}
use lib.ListN.{get_elem?}
use mathlib.Core.Option.{some}
use Rattle.atomic_table.specs.Table.{Me}
use Rattle.mb_claims.proofs.Occurrences.{In-le-sum}
use Rattle.mb_claims.specs.ClaimRule.{AreOpened, Knows}
use Rattle.mb_claims.specs.ClaimStep.{fresh, gathered_root, gathers}
use Rattle.mb_claims.specs.Closed.{ClosesAll}
use Rattle.mb_claims.specs.View.{pass_of, root_of}
use Rattle.mb_claims.specs.declared.views.PassView.{PassView}
use Rattle.mb_claims.specs.declared.views.RootView.{RootView}
use Rattle.mb_claims.specs.declared.views.View.{View}
use Rattle.mb_claims.specs.declared.views.View.TheVariants.{OfPass, OfRoot}
use Rattle.mb_claims.specs.loops.Seats.{IsRootSeat}
use Rattle.mb_tables.specs.Lists.{In}

-- a fresh number isn't open
pub fresh-new : (opened : List ℕ) → In (fresh opened) opened → ⊥
fresh-new opened i = let h = In-le-sum (suc (sum opened)) opened i in omega arith

-- no view is a root's and a pass's
pub root_or_pass : (root : RootView) (pass : PassView) → OfRoot root ≡ OfPass pass → ⊥
root_or_pass root pass e = cc

-- a root that has a seat is the one of the rule
pub root_seat : (views : List View) (seat : ℕ) (root : RootView) → (rule : AreOpened views) →
    Knows views seat (OfRoot root) → (seat ≡ rule.seat) × (root ≡ rule.root)
root_seat views seat root rule at =
    let here : seat ≡ rule.seat = rule.only seat root at in
    let two : some (OfRoot root) ≡ some (OfRoot rule.root) =
    sym at ∙ ap (get_elem? views) here ∙ rule.there in (here, cc)

-- each pass has an open number
pub opened_there : (views : List View) (seat : ℕ) (root : RootView) → AreOpened views →
    Knows views seat (OfRoot root) →
    (other : ℕ) (pass : PassView) → Knows views other (OfPass pass) → In pass.number root.opened
opened_there views seat root rule at other pass k =
    let here = root_seat views seat root rule at in
    subst (λ (r : RootView). In pass.number r.opened) (sym here.1) (rule.open_pass other pass k)

-- the root's seat after a gathering, by what the step says of it
pub gathered_seat : {S : Type 0} (me after : Me S View) (second : View) →
    me ≡ (OfRoot (root_of me.0), []) → second ≡ OfPass (pass_of second) →
    after ≡ (gathered_root me.0 second, me.1) →
    after ≡ (OfRoot (gathers (root_of me.0) (pass_of second)), [])
gathered_seat me after second is it e =
    e ∙ ap (λ v. (gathered_root v second, me.1)) (ap (λ t. t.0) is)
    ∙ ap (λ v. (gathered_root (OfRoot (root_of me.0)) v, me.1)) it
    ∙ ap (λ l. (OfRoot (gathers (root_of me.0) (pass_of second)), l)) (ap (λ t. t.1) is)

-- and after a load
pub looked_seat : (me after : Me ℕ View) (root : RootView) → me ≡ (OfRoot root, []) →
    (after ≡ me) × ((r : RootView) → me.0 ≡ OfRoot r → ClosesAll r) →
    IsRootSeat after × (root_of after.0 ≡ root)
looked_seat me after root is e =
    let now : after ≡ (OfRoot root, []) = e.0 ∙ is in (
      record {
        view = now ∙ ap (λ r. (OfRoot r, [])) (sym (ap (λ t. root_of t.0) now));
        closed = subst ClosesAll (sym (ap (λ t. root_of t.0) now)) (e.1 root (ap (λ t. t.0) is));
      },
      ap (λ t. root_of t.0) now,
    )
