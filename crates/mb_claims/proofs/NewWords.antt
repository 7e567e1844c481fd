-- New words, all 0, and a new root's view meet the rule.
use Rattle.std.proofs.Common.{List, [], refl, replicate, subst, sum, suc, sym, zero, ℕ, ◌<◌, ◌∙◌, ◌∷◌, ◌≡◌}
use Rattle.std.proofs.lemmas.List.{get_or-replicate, length-replicate}
use mathlib.Core.Option.{some-injective, some-ne-none}
use Rattle.atomic_table.specs.Table.{Me}
use Rattle.mb_claims.proofs.Occurrences.{occurrences-none}
use Rattle.mb_claims.specs.ClaimRule.{IsClaimed, Knows}
use Rattle.mb_claims.specs.ClaimStep.{new_root}
use Rattle.mb_claims.specs.Probe.{Holds}
use Rattle.mb_claims.specs.View.{HasSizes, keys_of, notes_of, root_of}
use Rattle.mb_claims.specs.declared.views.View.{View}
use Rattle.mb_claims.specs.declared.views.View.TheVariants.{OfPass, OfRoot}
use Rattle.mb_claims.specs.loops.Seats.{IsRootSeat}
use Rattle.mb_tables.specs.Lists.{In}

-- the only seat has the only view
only_seat : (view other : View) (seat : ℕ) → Knows (view ∷ []) seat other →
    (seat ≡ 0) × (view ≡ other)
only_seat view other zero e = (refl, some-injective view other e)
only_seat view other (suc n) e = absurd (some-ne-none other (sym e))

-- no word holds a key
none_holds : (n place key : ℕ) → Holds (replicate n 0) place key → ⊥
none_holds n place key h =
    let l = subst (λ m. place < m) (length-replicate n 0) h.within in
    h.key_is (sym h.word ∙ get_or-replicate n place 0 0 l)

-- new words and a new root meet the rule
pub new-kept : (sizes : List ℕ) (n : ℕ) → n ≡ sum sizes →
    IsClaimed sizes (replicate n 0) (new_root sizes ∷ [])
unfolding In
new-kept sizes n total = record {
  sized = record {
    total = length-replicate n 0 ∙ total;
    shared = λ seat view k. subst (HasSizes sizes) (only_seat (new_root sizes) view seat k).1 refl;
  };
  noted = λ seat view k note i.
      absurd (subst (λ v. In note (notes_of v)) (sym (only_seat (new_root sizes) view seat k).1) i);
  reached = λ place key h. absurd (none_holds n place key h);
  once = λ key place other h. absurd (none_holds n place key h);
  counted = record {
    keys = λ seat view k i.
        subst (λ v. In 0 (keys_of v)) (sym (only_seat (new_root sizes) view seat k).1) i;
    often = λ key pos.
        sym (occurrences-none key (replicate n 0) (λ i l e.
        none_holds n i key (record { within = l; key_is = pos; word = e })));
  };
  numbered = record {
    seat = 0;
    root = root_of (new_root sizes);
    there = refl;
    only = λ other view k. (only_seat (new_root sizes) (OfRoot view) other k).0;
    above = λ i. i;
    distinct = tt;
    open_pass = λ other pass k.
        let e : new_root sizes ≡ OfPass pass =
        (only_seat (new_root sizes) (OfPass pass) other k).1 in
        absurd cc;
    own = λ one other v w k l e.
        (only_seat (new_root sizes) (OfPass v) one k).0
        ∙ sym (only_seat (new_root sizes) (OfPass w) other l).0;
  };
}

-- a new root's seat
pub new_seat : (sizes : List ℕ) (me : Me ℕ View) → me ≡ (new_root sizes, []) → IsRootSeat me
unfolding In
new_seat sizes me is =
    subst IsRootSeat (sym is) (record {
      view = refl;
      closed = λ none. record {
        once = tt;
        keys = λ i. i;
        gathered = λ note i. i;
        home = λ note i. absurd i;
        apart = λ note other i j e. absurd i;
      };
    })
