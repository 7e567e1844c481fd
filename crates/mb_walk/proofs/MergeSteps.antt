-- What an owner takes over, pile by pile.
use Rattle.std.proofs.Common.{List, Some, [], arith, false, length, slice_get, subst, sym, ℕ, ◌+◌, ◌<◌, ◌≡◌, ◌⊎◌}
use Rattle.std.proofs.lemmas.Bool.Decides.{nat_tests}
use Rattle.std.specs.Prelude.{nat_lt}
use Rattle.mb_rings.proofs.PlacesBelow.{SomeBelow, below-cases, below-more, below-none}
use Rattle.mb_rings.proofs.SearchSteps.{finds-none, finds-same, finds-then}
use Rattle.mb_rings.specs.Ring.{Ring}
use Rattle.mb_rings.specs.loops.Found.{FindsMore}
use Rattle.mb_tables.proofs.ListLaws.{place-within}
use Rattle.mb_walk.specs.loops.Piles.{IsDealt, IsInPile}
use Rattle.mb_walk.specs.declared.dealer.Dealer.{Dealer}

-- the piles of workers before a place
abbrev pub InPilesBelow : List Dealer → ℕ → ℕ → List ℕ → Type 0
InPilesBelow dealers i j v = SomeBelow dealers i (λ dealer. IsInPile j dealer v)

-- before the first pile
pub piled-none : (dealers : List Dealer) (j : ℕ) (before old : Ring) → old ≡ [] →
    FindsMore (InPilesBelow dealers 0 j) before before [] old
piled-none dealers j before old e =
    subst (FindsMore (InPilesBelow dealers 0 j) before before []) (sym e)
    (finds-none (InPilesBelow dealers 0 j) before []
    (λ v h fits. absurd (below-none dealers (λ dealer. IsInPile j dealer v) h)))

-- a pile more
pub piled-more : (dealers : List Dealer) (i j : ℕ) (dealer : Dealer) →
    slice_get dealers i ≡ Some dealer → (before middle after half new : Ring) →
    FindsMore (InPilesBelow dealers i j) before middle [] half →
    FindsMore (IsInPile j dealer) middle after half new →
    FindsMore (InPilesBelow dealers (i + 1) j) before after [] new
piled-more dealers i j dealer there before middle after half new f g =
    finds-same (λ v. InPilesBelow dealers i j v ⊎ IsInPile j dealer v)
    (InPilesBelow dealers (i + 1) j) before after [] new
    (λ v k. below-more dealers i dealer (λ d. IsInPile j d v) there k)
    (λ v k. below-cases dealers i dealer (λ d. IsInPile j d v) there k)
    (finds-then (InPilesBelow dealers i j) (IsInPile j dealer) before middle after [] half new f g)

-- all piles
pub piled-all : (dealers : List Dealer) (i j : ℕ) (before after new : Ring) →
    i ≡ length dealers → FindsMore (InPilesBelow dealers i j) before after [] new →
    FindsMore (IsDealt dealers j) before after [] new
piled-all dealers i j before after new e f =
    finds-same (InPilesBelow dealers i j) (IsDealt dealers j) before after [] new
    (λ v h. (h.place, h.element, h.is, h.holds))
    (λ v h. record {
      place = h.0;
      below = subst (λ n. h.0 < n) (sym e) (place-within dealers h.0 h.1 h.2);
      element = h.1;
      is = h.2;
      holds = h.3;
    })
    f

-- there is no pile
pub no-pile : (j n : ℕ) (dealer : Dealer) (before old : Ring) →
    n ≡ length dealer.piles.items → false ≡ nat_lt j n →
    FindsMore (IsInPile j dealer) before before old old
no-pile j n dealer before old e f =
    finds-none (IsInPile j dealer) before old
    (λ v h fits. let l = place-within dealer.piles.items j h.0 h.1 in
    absurd (grind (arith, nat_tests)))
