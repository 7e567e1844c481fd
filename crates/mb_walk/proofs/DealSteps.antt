-- What a worker deals, part by part.
use Rattle.std.proofs.Common.{zero, suc, ap, List, Some, [], arith, inl, inr, get_or, length, slice_get, subst, sym, ℕ, ℤ, ◌+◌, ◌<◌, ◌∙◌, ◌∷◌, ◌≡◌, ◌≤◌, ◌⊎◌, ⊎_elim}
use Rattle.std.proofs.lemmas.List.Sorted.{length_permutation}
use Rattle.std.proofs.lemmas.Option.{get_or_from_slice_get}
use Rattle.std.specs.List.Sorted.{IsPermutation}
use Rattle.mb_rings.proofs.DistinctTables.{In-permutation, permutation-In}
use Rattle.mb_rings.proofs.PlacesBelow.{NearBelow, Steps, SteppedBelow, all-near, all-stepped, below-cases, below-more, below-none, get-there, some-near, some-stepped, stepped-cases, stepped-more}
use Rattle.mb_rings.specs.Ring.{Ring, tables_of}
use Rattle.mb_tables.specs.Lists.{In}
use Rattle.mb_tables.specs.Step.{IsNear, Moved, OneApart}
use Rattle.mb_tables.specs.declared.sign.Sign.TheVariants.{Minus, Plus}
use Rattle.mb_walk.proofs.OwnedParts.{In-part, part-In, parts-put, put-tables}
use Rattle.mb_walk.specs.Owned.{owner_of}
use Rattle.mb_walk.specs.loops.Piles.{AreOwned, Deals, IsDealer, IsPut, dealt_by, kept}
use Rattle.mb_walk.specs.declared.owner.Owner.{Owner}
use Rattle.mb_walk.specs.declared.dealer.Dealer.{Dealer}

module _ (room : ℕ) (known : List (List ℕ)) where
  -- what is sought is known or dealt
  pub deals-met : (P : List ℕ → Type 0) (dealer : Dealer) →
      ((v : List ℕ) → P v → In v known ⊎ In v (dealt_by dealer)) → Deals room known P dealer dealer
  deals-met P dealer met = record {
    sought = λ v i. inl i;
    kept = λ v i. i;
    told = λ w. (w, λ v p fits. met v p);
  }

  -- nothing is sought
  pub deals-none : (P : List ℕ → Type 0) (dealer : Dealer) → ((v : List ℕ) → P v → ⊥) →
      Deals room known P dealer dealer
  deals-none P dealer none = deals-met P dealer (λ v p. absurd (none v p))

  -- a table is dealt
  pub deals-one : (table : List ℕ) (before after : Dealer) →
      IsPermutation (table ∷ dealt_by before) (dealt_by after) →
      after.is_short ≡ before.is_short → after.dealt ≡ before.dealt + 1 →
      Deals room known (λ v. v ≡ table) before after
  unfolding In
  deals-one table before after p short count = record {
    sought = λ v i. elim (permutation-In (table ∷ dealt_by before) (dealt_by after) v p i) [
      | inl e ↦ inr e
      | inr k ↦ inl k
    ];
    kept = λ v i. In-permutation (table ∷ dealt_by before) (dealt_by after) v p (inr i);
    told = λ w. (
      record { long = sym short ∙ w.long; few = omega (arith, w.few, count) },
      λ v e fits. inr (In-permutation (table ∷ dealt_by before) (dealt_by after) v p (inl e)),
    );
  }

  -- one after another
  pub deals-then : (P Q : List ℕ → Type 0) (before middle after : Dealer) →
      Deals room known P before middle → Deals room known Q middle after →
      Deals room known (λ v. P v ⊎ Q v) before after
  deals-then P Q before middle after f g = record {
    sought = λ v i. ⊎_elim
        (λ m. ⊎_elim (λ b. inl b) (λ p. inr (inl p)) (f.sought v m))
        (λ q. inr (inr q))
        (g.sought v i);
    kept = λ v i. g.kept v (f.kept v i);
    told = λ w.
        let second = g.told w in
        let first = f.told second.0 in (
          first.0,
          λ v s fits. ⊎_elim
              (λ p. ⊎_elim (λ k. inl k) (λ m. inr (g.kept v m)) (first.1 v p fits))
              (λ q. second.1 v q fits)
              s,
        );
  }

  -- the same tables, sought in other words
  pub deals-same : (P Q : List ℕ → Type 0) (before after : Dealer) → ((v : List ℕ) → P v → Q v) →
      ((v : List ℕ) → Q v → P v) → Deals room known P before after →
      Deals room known Q before after
  deals-same P Q before after to from f = record {
    sought = λ v i. ⊎_elim (λ b. inl b) (λ p. inr (to v p)) (f.sought v i);
    kept = f.kept;
    told = λ w. let t = f.told w in (t.0, λ v q fits. t.1 v (from v q) fits);
  }

  -- some tables, and then others
  deals-both : (P Q R : List ℕ → Type 0) (before middle after : Dealer) →
      ((v : List ℕ) → P v ⊎ Q v → R v) → ((v : List ℕ) → R v → P v ⊎ Q v) →
      Deals room known P before middle → Deals room known Q middle after →
      Deals room known R before after
  deals-both P Q R before middle after to from f g =
      deals-same (λ v. P v ⊎ Q v) R before after to from (deals-then P Q before middle after f g)

  -- a move more is added and subtracted
  pub dealt-step : (moves : List (List ℤ)) (i : ℕ) (move : List ℤ) (u : List ℕ) →
      slice_get moves i ≡ Some move → (first second third last : Dealer) →
      Deals room known (SteppedBelow moves i u) first second →
      Deals room known (Moved Plus u move) second third →
      Deals room known (Moved Minus u move) third last →
      Deals room known (SteppedBelow moves (i + 1) u) first last
  dealt-step moves i move u there first second third last f g h =
      deals-both (λ v. SteppedBelow moves i u v ⊎ Moved Plus u move v) (Moved Minus u move)
      (SteppedBelow moves (i + 1) u) first third last
      (λ v k. stepped-more moves i move u v there k)
      (λ v k. stepped-cases moves i move u v there k)
      (deals-then (SteppedBelow moves i u) (Moved Plus u move) first second third f g) h

  -- all moves are tried
  pub dealt-all : (moves items : List (List ℤ)) (i : ℕ) (u : List ℕ) (before after : Dealer) →
      items ≡ moves → i ≡ length items → Deals room known (SteppedBelow items i u) before after →
      Deals room known (OneApart moves u) before after
  dealt-all moves items i u before after e end f =
      subst (λ (list : List (List ℤ)). Deals room known (OneApart list u) before after) e
      (deals-same (SteppedBelow items i u) (OneApart items u) before after
      (λ v h. some-stepped items i u v h)
      (λ v h. subst (λ k. SteppedBelow items k u v) (sym end) (all-stepped items u v h)) f)

  -- a table of the share more is expanded
  pub dealt-place : (moves : List (List ℤ)) (ring : Ring) (i : ℕ) (u : List ℕ) →
      slice_get ring i ≡ Some u → (first second last : Dealer) →
      Deals room known (NearBelow moves ring i) first second →
      Deals room known (OneApart moves u) second last →
      Deals room known (NearBelow moves ring (i + 1)) first last
  dealt-place moves ring i u there first second last f g =
      deals-both (NearBelow moves ring i) (OneApart moves u) (NearBelow moves ring (i + 1))
      first second last
      (λ v k. below-more ring i u (λ w. OneApart moves w v) there k)
      (λ v k. below-cases ring i u (λ w. OneApart moves w v) there k) f g

  -- all tables are expanded
  pub dealt-share : (moves : List (List ℤ)) (ring : Ring) (i : ℕ) (before after : Dealer) →
      i ≡ length ring → Deals room known (NearBelow moves ring i) before after →
      Deals room known (IsNear moves ring) before after
  dealt-share moves ring i before after end f =
      deals-same (NearBelow moves ring i) (IsNear moves ring) before after
      (λ v h. some-near moves ring i v h)
      (λ v h. subst (λ k. NearBelow moves ring k v) (sym end) (all-near moves ring v h)) f

  -- before the first move
  pub dealt-no_move : (moves : List (List ℤ)) (u : List ℕ) (dealer : Dealer) →
      Deals room known (SteppedBelow moves 0 u) dealer dealer
  dealt-no_move moves u dealer =
      deals-none (SteppedBelow moves 0 u) dealer (λ v h. below-none moves (Steps u v) h)

  -- before the first table
  pub dealt-no_table : (moves : List (List ℤ)) (ring : Ring) (dealer : Dealer) →
      Deals room known (NearBelow moves ring 0) dealer dealer
  dealt-no_table moves ring dealer =
      deals-none (NearBelow moves ring 0) dealer
      (λ v h. below-none ring (λ u. OneApart moves u v) h)

-- the tables of an owner stand at its place
pub kept-at : (owners : List Owner) (i : ℕ) (owner : Owner) → slice_get owners i ≡ Some owner →
    slice_get (kept owners) i ≡ Some owner.visited
kept-at [] i owner e = cc
kept-at (o ∷ owners) zero owner e = let f : o ≡ owner = cc in ap (λ (x : Owner). Some x.visited) f
kept-at (o ∷ owners) (suc i) owner e = kept-at owners i owner e

-- a table is put into the pile of its owner
pub dealer-put : (n room : ℕ) (known : List (List ℕ)) (before after : Dealer) (j : ℕ)
    (table : List ℕ) → IsDealer n room known before →
    (p : IsPut j table before.piles.items after.piles.items) → owner_of n table ≡ j →
    (In table p.part → ⊥) → (In table known → ⊥) → before.dealt ≤ room →
    after.dealt ≡ before.dealt + 1 → IsDealer n room known after
unfolding In
dealer-put n room known before after j table h p owned new fresh few count =
    let q = put-tables j table before.piles.items after.piles.items p in
    record {
      parts =
          parts-put n j table before.piles.items after.piles.items h.parts p owned new;
      count =
          let e = length_permutation (table ∷ dealt_by before) (dealt_by after) q in
          let f = h.count in omega arith;
      most = omega arith;
      new = λ v i k. elim (permutation-In (table ∷ dealt_by before) (dealt_by after) v q i) [
        | inl e ↦ fresh (subst (λ u. In u known) e k)
        | inr b ↦ h.new v b k
      ];
    }

-- the piles are as they were
pub dealer-same : (n room : ℕ) (known : List (List ℕ)) (before after : Dealer) →
    IsDealer n room known before → after.piles.items ≡ before.piles.items →
    after.dealt ≡ before.dealt → IsDealer n room known after
dealer-same n room known before after h e count = record {
  parts = subst (AreOwned n) (sym e) h.parts;
  count = count ∙ h.count ∙ ap (λ list. length (tables_of list)) (sym e);
  most = subst (λ k. k ≤ room + 1) (sym count) h.most;
  new = λ v i k. h.new v (subst (λ list. In v (tables_of list)) e i) k;
}

-- a table that the owner at a place keeps is kept
pub owner-has : (owners : List Owner) (i : ℕ) (o : Owner) → i < length owners →
    o ≡ get_or owners i o → (table v : List ℕ) → v ≡ table →
    In table (get_or owners i o).visited → In v (tables_of (kept owners))
owner-has owners i o l is table v e h =
    part-In (kept owners) i o.visited (kept-at owners i o (get-there owners i o l is)) v
    (subst (λ u. In u o.visited) (sym e) (subst (λ (x : Owner). In table x.visited) (sym is) h))

-- a table that is kept is kept by its owner
pub has-owner : (owners : List Owner) (i : ℕ) (o : Owner) → i < length owners →
    o ≡ get_or owners i o → AreOwned (length owners) (kept owners) → (table : List ℕ) →
    owner_of (length owners) table ≡ i → In table (tables_of (kept owners)) →
    In table (get_or owners i o).visited
has-owner owners i o l is parts table owned h =
    subst (λ (x : Owner). In table x.visited) is
    (In-part (length owners) (kept owners) parts i o.visited
    (kept-at owners i o (get-there owners i o l is)) table owned h)

-- a table of a pile was dealt
pub pile-has : (piles : List Ring) (i : ℕ) (pile : Ring) → i < length piles →
    pile ≡ get_or piles i pile → (table v : List ℕ) → v ≡ table → In table pile →
    In v (tables_of piles)
pile-has piles i pile l is table v e h =
    part-In piles i pile (get-there piles i pile l is) v (subst (λ u. In u pile) (sym e) h)

-- the pile at a place is this one
pub same-pile : (piles : List Ring) (i : ℕ) (pile part : Ring) → pile ≡ get_or piles i pile →
    slice_get piles i ≡ Some part → part ≡ pile
same-pile piles i pile part is there = sym (is ∙ get_or_from_slice_get piles i part pile there)
