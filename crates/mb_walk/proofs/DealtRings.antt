-- What workers deal of the tables one step from a ring.
use Rattle.std.proofs.Common.{All, List, Some, [], ap, arith, false, get_or, inl, inr, length, length-append, nat_eq, refl, slice_get, subst, suc, sym, true, ℕ, ℤ, ◌++◌, ◌+◌, ◌<◌, ◌∙◌, ◌∷◌, ◌≡◌, ◌≤◌, ⊎_elim}
use Rattle.std.proofs.Math.Dec.{eqb-suc-zero}
use Rattle.std.proofs.lemmas.Option.{get_or_from_slice_get}
use Rattle.mb_rings.proofs.DistinctTables.{distinct-append, distinct-none}
use Rattle.mb_rings.proofs.RingShares.{In-share, In-some_share}
use Rattle.mb_rings.specs.Ring.{Ring, tables_of}
use Rattle.mb_rings.specs.Share.{share_of}
use Rattle.mb_rings.specs.declared.fault.WalkFault.{WalkFault}
use Rattle.mb_rings.specs.declared.fault.WalkFault.TheVariants.{OutOfMemory, TooLarge}
use Rattle.mb_rings.specs.loops.Found.{AreDistinct, IsSearchFault}
use Rattle.mb_tables.proofs.ListLaws.{place-within, some_at}
use Rattle.mb_tables.specs.Lists.{In}
use Rattle.mb_tables.specs.Step.{IsNear}
use Rattle.mb_walk.proofs.OwnedParts.{distinct-parts}
use Rattle.mb_walk.specs.declared.dealer.Dealer.{Dealer}
use Rattle.mb_walk.specs.loops.Piles.{AreDealt, AreOwned, Deals, HasDealt, IsDealer, IsIdle, IsOver, IsWhole, dealt_by}

-- the tables of empty piles
no-tables : (piles : List Ring) → All (λ pile. pile ≡ []) piles → tables_of piles ≡ []
no-tables [] h = refl
no-tables (p ∷ piles) h =
    let e : p ≡ [] = h 0 [] (omega arith) in
    let f : tables_of piles ≡ [] =
    no-tables piles (λ i d l. h (suc i) d (omega arith)) in
    ap (λ t. t ++ tables_of piles) e ∙ f

-- empty piles are parts
no-parts : (n : ℕ) (piles : List Ring) → All (λ pile. pile ≡ []) piles → AreOwned n piles
unfolding In
no-parts n piles h j part e =
    let l : j < length piles = place-within piles j part e in
    let is : part ≡ [] = sym (get_or_from_slice_get piles j part part e) ∙ h j part l in
    record {
      once = subst AreDistinct (sym is) distinct-none;
      owned = λ v i. absurd (subst (λ list. In v list) is i);
    }

-- a worker that has dealt nothing has no pile that isn't empty
pub idle-none : (dealer : Dealer) → IsIdle dealer → All (λ pile. pile ≡ []) dealer.piles.items
idle-none dealer h i d l =
    let e = ap length h.piles in absurd (omega arith)

-- an empty share has no table
pub no-share : (share : Ring) (u : List ℕ) → true ≡ nat_eq (length share) 0 → In u share → ⊥
unfolding In
no-share [] u e i = i
no-share (x ∷ share) u e i =
    let f : true ≡ false = e ∙ eqb-suc-zero (length share) in cc

module _ (room : ℕ) (known : List (List ℕ)) where
  -- a worker with empty piles
  pub dealer-none : (n : ℕ) (dealer : Dealer) → All (λ pile. pile ≡ []) dealer.piles.items →
      dealer.dealt ≡ 0 → IsDealer n room known dealer
  unfolding In
  dealer-none n dealer none count =
      let e = no-tables dealer.piles.items none in
      record {
        parts = no-parts n dealer.piles.items none;
        count = count ∙ sym (ap length e);
        most = omega arith;
        new = λ v i k. absurd (subst (λ list. In v list) e i);
      }

  -- what a worker with empty piles deals
  pub has-dealt : (P : List ℕ → Type 0) (before after : Dealer) →
      All (λ pile. pile ≡ []) before.piles.items → Deals room known P before after →
      HasDealt room known P after
  unfolding In
  has-dealt P before after none d = record {
    sought = λ v i. ⊎_elim
        (λ b. absurd (subst (λ list. In v list) (no-tables before.piles.items none) b))
        (λ p. p)
        (d.sought v i);
    told = λ w. (d.told w).1;
  }

  -- a worker with empty piles has dealt all, where nothing is sought
  pub has-none : (P : List ℕ → Type 0) (dealer : Dealer) →
      All (λ pile. pile ≡ []) dealer.piles.items →
      (IsWhole room dealer → (v : List ℕ) → P v → ⊥) → HasDealt room known P dealer
  unfolding In
  has-none P dealer none never = record {
    sought = λ v i. absurd (subst (λ list. In v list) (no-tables dealer.piles.items none) i);
    told = λ w v p fits. absurd (never w v p);
  }

  -- the same tables, sought in other words
  pub has-same : (moves : List (List ℤ)) (share other : Ring) (dealer : Dealer) →
      share ≡ other → HasDealt room known (IsNear moves share) dealer →
      HasDealt room known (IsNear moves other) dealer
  has-same moves share other dealer e h =
      subst (λ ring. HasDealt room known (IsNear moves ring) dealer) e h

  module _ (n : ℕ) (moves : List (List ℤ)) (ring : Ring) (count : ℕ) (dealers : List Dealer)
      (some : 0 < count) (many : length dealers ≡ count)
      (ours : All (IsDealer n room known) dealers)
      (each : (i : ℕ) (d : Dealer) → i < count →
      HasDealt room known (IsNear moves (share_of ring i count)) (get_or dealers i d))
    where
      -- the worker at a place
      dealer-at : (i : ℕ) (d : Dealer) → slice_get dealers i ≡ Some d → IsDealer n room known d
      dealer-at i d e =
          subst (IsDealer n room known) (get_or_from_slice_get dealers i d d e)
          (ours i d (place-within dealers i d e))

      -- what it dealt
      dealt-at : (i : ℕ) (d : Dealer) → slice_get dealers i ≡ Some d →
          HasDealt room known (IsNear moves (share_of ring i count)) d
      dealt-at i d e =
          let l : i < length dealers = place-within dealers i d e in
          subst (HasDealt room known (IsNear moves (share_of ring i count)))
          (get_or_from_slice_get dealers i d d e) (each i d (omega arith))

      -- it dealt tables one step from the ring
      near-at : (i : ℕ) (d : Dealer) → slice_get dealers i ≡ Some d → (v : List ℕ) →
          In v (dealt_by d) → IsNear moves ring v
      near-at i d e v k =
          let near = (dealt-at i d e).sought v k in
          (near.0, In-share ring i count near.0 near.1, near.2)

      -- where one has dealt more than there is room for, the limit is passed
      pub dealt-over : (limit : ℕ) (fault : WalkFault) → AreDistinct known →
          limit ≤ length known + room → IsOver room limit dealers fault →
          IsSearchFault (IsNear moves ring) limit known fault
      dealt-over limit OutOfMemory once enough h = tt
      dealt-over limit (TooLarge seen) once enough h =
          let d : Dealer = h.2 in
          let is = dealer-at h.1 d h.3 in
          let more = h.4 in
          let e = is.count in
          let f = length-append known (dealt_by d) in (
            h.0,
            dealt_by d,
            record {
              distinct =
                  distinct-append known (dealt_by d) once
                  (distinct-parts n d.piles.items is.parts)
                  (λ v i j. is.new v j i);
              sought = λ v i. near-at h.1 d h.3 v i;
              many = omega arith;
            },
          )

      -- where all are whole, each table one step from the ring is known or dealt
      pub dealt-all : All (IsWhole room) dealers → AreDealt n known (IsNear moves ring) dealers
      dealt-all whole = record {
        piles = λ i d e. (dealer-at i d e).parts;
        sought = λ v h. near-at h.place h.dealer h.is v h.has;
        new = λ v h k. (dealer-at h.place h.dealer h.is).new v h.has k;
        all = λ v near fits.
            let s = In-some_share ring count some near.0 near.1 in
            let w : ℕ = s.0 in
            let l : w < length dealers = omega (arith, s.1, many) in
            let there = some_at dealers w l in
            let d : Dealer = there.0 in
            let done : IsWhole room d =
            subst (IsWhole room) (get_or_from_slice_get dealers w d d there.1) (whole w d l) in
            ⊎_elim
            (λ k. inl k)
            (λ i. inr (record { place = w; dealer = d; is = there.1; has = i }))
            ((dealt-at w d there.1).told done v (near.0, s.2, near.2) fits);
      }
