-- What the owners take over together.
use Rattle.std.proofs.Common.{List, Some, [], ap, append_assoc, arith, get_or, length, length-append, refl, slice_get, subst, suc, sym, zero, ℕ, ◌++◌, ◌+◌, ◌<◌, ◌∙◌, ◌∷◌, ◌≡◌, ⊎_elim}
use Rattle.std.proofs.lemmas.List.Sorted.{IsPermutation-append, IsPermutation-append_comm, IsPermutation-append_right, IsPermutation-refl, IsPermutation-trans}
use Rattle.std.proofs.lemmas.Option.{get_or_from_slice_get}
use Rattle.std.specs.List.Sorted.{IsPermutation}
use Rattle.mb_rings.proofs.DistinctTables.{In-permutation, distinct-append, distinct-permutation, permutation-In}
use Rattle.mb_rings.proofs.ListElements.{In-flat}
use Rattle.mb_rings.proofs.SearchSteps.{finds-permuted}
use Rattle.mb_rings.specs.Ring.{Ring, tables_of}
use Rattle.mb_rings.specs.loops.Found.{AreDistinct, Exceeds, Finds, FindsMore}
use Rattle.mb_tables.proofs.ListLaws.{In-cases, In-left, place-within, some_at}
use Rattle.mb_tables.specs.Lists.{In}
use Rattle.mb_walk.proofs.DealSteps.{kept-at}
use Rattle.mb_walk.proofs.OwnedParts.{In-part, distinct-parts, part-In}
use Rattle.mb_walk.specs.Owned.{owner_of}
use Rattle.mb_walk.specs.declared.dealer.Dealer.{Dealer}
use Rattle.mb_walk.specs.declared.owner.Owner.{Owner}
use Rattle.mb_walk.specs.loops.Piles.{AreDealt, AreOwned, ArePiles, IsDealt, IsDealtBy, IsOwned, joined, kept, seen_by}

-- two pairs of lists, joined part by part
crossed : (a b c d : Ring) → IsPermutation ((a ++ b) ++ (c ++ d)) ((a ++ c) ++ (b ++ d))
crossed a b c d =
    let e : (a ++ b) ++ (c ++ d) ≡ a ++ ((b ++ c) ++ d) =
    append_assoc a b (c ++ d) ∙ ap (λ list. a ++ list) (sym (append_assoc b c d)) in
    let f : a ++ ((c ++ b) ++ d) ≡ (a ++ c) ++ (b ++ d) =
    ap (λ list. a ++ list) (append_assoc c b d) ∙ sym (append_assoc a c (b ++ d)) in
    subst (λ list. IsPermutation list ((a ++ c) ++ (b ++ d))) (sym e)
    (subst (λ list. IsPermutation (a ++ ((b ++ c) ++ d)) list) f
    (IsPermutation-append_right a ((b ++ c) ++ d) ((c ++ b) ++ d)
    (IsPermutation-append (b ++ c) (c ++ b) d d (IsPermutation-append_comm b c)
    (IsPermutation-refl d))))

-- what each owner keeps, with its list, is what it keeps afterwards: all of them together
all-kept : (old new : List Owner) → length old ≡ length new →
    ((i : ℕ) (d : Owner) → i < length old →
    IsPermutation ((get_or old i d).visited ++ (get_or new i d).next.items)
    (get_or new i d).visited) →
    IsPermutation (seen_by old ++ tables_of (joined new)) (seen_by new)
all-kept [] [] e h = IsPermutation-refl []
all-kept [] (y ∷ new) e h = absurd (omega arith)
all-kept (x ∷ old) [] e h = absurd (omega arith)
all-kept (x ∷ old) (y ∷ new) e h =
    IsPermutation-trans (seen_by (x ∷ old) ++ tables_of (joined (y ∷ new)))
    ((x.visited ++ y.next.items) ++ (seen_by old ++ tables_of (joined new)))
    (seen_by (y ∷ new))
    (crossed x.visited (seen_by old) y.next.items (tables_of (joined new)))
    (IsPermutation-append (x.visited ++ y.next.items) y.visited
    (seen_by old ++ tables_of (joined new)) (seen_by new) (h 0 x (omega arith))
    (all-kept old new (omega arith) (λ i d l. h (suc i) d (omega arith))))

-- the owner of a list
at-joined : (owners : List Owner) (i : ℕ) (list : Ring) → slice_get (joined owners) i ≡ Some list →
    (owner : Owner) × (slice_get owners i ≡ Some owner) × (list ≡ owner.next.items)
at-joined [] i list e = cc
at-joined (o ∷ owners) zero list e = (o, refl, cc)
at-joined (o ∷ owners) (suc i) list e = at-joined owners i list e

-- the owner of what is kept
at-kept : (owners : List Owner) (i : ℕ) (part : Ring) → slice_get (kept owners) i ≡ Some part →
    (owner : Owner) × (slice_get owners i ≡ Some owner) × (part ≡ owner.visited)
at-kept [] i part e = cc
at-kept (o ∷ owners) zero part e = (o, refl, cc)
at-kept (o ∷ owners) (suc i) part e = at-kept owners i part e

-- a table dealt to an owner is dealt
dealt-some : (dealers : List Dealer) (j : ℕ) (v : List ℕ) → IsDealt dealers j v →
    IsDealtBy dealers v
dealt-some dealers j v h = record {
  place = h.0;
  dealer = h.1;
  is = h.2;
  has = part-In h.1.piles.items j h.3.0 h.3.1 v h.3.2;
}

-- it is dealt to its owner
dealt-owned : (n : ℕ) (dealers : List Dealer) → ArePiles n dealers → (j : ℕ) (v : List ℕ) →
    IsDealt dealers j v → owner_of n v ≡ j
dealt-owned n dealers piles j v h = (piles h.0 h.1 h.2 j h.3.0 h.3.1).owned v h.3.2

-- a table that is dealt is dealt to its owner
some-dealt : (n : ℕ) (dealers : List Dealer) → ArePiles n dealers → (v : List ℕ) →
    IsDealtBy dealers v → IsDealt dealers (owner_of n v) v
some-dealt n dealers piles v h =
    let r = In-flat (λ (p : Ring). p) v h.dealer.piles.items h.has in
    let owned : owner_of n v ≡ r.0 = (piles h.place h.dealer h.is r.0 r.1 r.2).owned v r.3 in (
      h.place,
      h.dealer,
      h.is,
      (r.1, subst (λ k. slice_get h.dealer.piles.items k ≡ Some r.1) (sym owned) r.2, r.3),
    )

module _ (n : ℕ) (dealers : List Dealer) (old new : List Owner) (some : 0 < n)
    (before : length old ≡ n) (after : length new ≡ n) (piles : ArePiles n dealers)
    (parts : AreOwned n (kept old))
    (each : (i : ℕ) (d : Owner) → i < length old →
    FindsMore (IsDealt dealers i) (get_or old i d).visited (get_or new i d).visited []
    (get_or new i d).next.items)
  where
    -- what an owner found
    finds-at : (i : ℕ) (d : Owner) → i < length old →
        Finds (IsDealt dealers i) (get_or old i d).visited (get_or new i d).visited
        (get_or new i d).next.items
    finds-at i d l =
        let f = each i d l in
        subst (Finds (IsDealt dealers i) (get_or old i d).visited (get_or new i d).visited)
        (sym f.listed) f.finds

    -- what it kept before
    part-at : (i : ℕ) (d : Owner) → i < length old → IsOwned n i (get_or old i d).visited
    part-at i d l =
        let there = some_at old i l in
        let o : Owner = there.0 in
        subst (λ (x : Owner). IsOwned n i x.visited) (sym (get_or_from_slice_get old i o d there.1))
        (parts i o.visited (kept-at old i o there.1))

    -- its list is a part
    list-part : (i : ℕ) (d : Owner) → i < length old → IsOwned n i (get_or new i d).next.items
    list-part i d l =
        let f = finds-at i d l in
        record {
          once = f.once;
          owned = λ v k. dealt-owned n dealers piles i v (f.sought v k);
        }

    -- the lists are parts
    lists-parts : AreOwned n (joined new)
    lists-parts i list e =
        let r = at-joined new i list e in
        let o : Owner = r.0 in
        let l : i < length new = place-within new i o r.1 in
        subst (IsOwned n i) (sym r.2)
        (subst (λ (x : Owner). IsOwned n i x.next.items) (get_or_from_slice_get new i o o r.1)
        (list-part i o (omega arith)))

    -- what the owners keep afterwards are parts
    pub kept-parts : AreOwned n (kept new)
    kept-parts i part e =
        let r = at-kept new i part e in
        let o : Owner = r.0 in
        let l : i < length new = place-within new i o r.1 in
        let m : i < length old = omega arith in
        let f = finds-at i o m in
        let was = part-at i o m in
        let is = list-part i o m in
        let u : Ring = (get_or old i o).visited in
        let w : Ring = (get_or new i o).next.items in
        let grown : IsOwned n i (get_or new i o).visited = record {
          once =
              distinct-permutation (u ++ w) (get_or new i o).visited f.visited
              (distinct-append u w was.once is.once (λ v a b. f.new v b a));
          owned = λ v k. ⊎_elim
              (λ a. was.owned v a)
              (λ b. is.owned v b)
              (In-cases v u w (permutation-In (u ++ w) (get_or new i o).visited v f.visited k));
        } in
        subst (IsOwned n i) (sym r.2)
        (subst (λ (x : Owner). IsOwned n i x.visited) (get_or_from_slice_get new i o o r.1) grown)

    -- a listed table
    listed-at : (v : List ℕ) → In v (tables_of (joined new)) →
        (i : ℕ) × (o : Owner) × (i < length old) × In v (get_or new i o).next.items
    listed-at v k =
        let r = In-flat (λ (p : Ring). p) v (joined new) k in
        let s = at-joined new r.0 r.1 r.2 in
        let o : Owner = s.0 in
        let l : r.0 < length new = place-within new r.0 o s.1 in (
          r.0,
          o,
          omega arith,
          subst (λ (x : Owner). In v x.next.items) (sym (get_or_from_slice_get new r.0 o o s.1))
              (subst (λ list. In v list) s.2 r.3),
        )

    -- all of them together
    pub taken-over : Finds (IsDealtBy dealers) (seen_by old) (seen_by new) (tables_of (joined new))
    taken-over = record {
      visited =
          all-kept old new (before ∙ sym after) (λ i d l. (finds-at i d l).visited);
      sought = λ v k.
          let s = listed-at v k in
          dealt-some dealers s.0 v ((finds-at s.0 s.1 s.2).sought v s.3);
      new = λ v k a.
          let s = listed-at v k in
          let i : ℕ = s.0 in
          let f = finds-at i s.1 s.2 in
          let there = some_at old i s.2 in
          let o : Owner = there.0 in
          let owned = dealt-owned n dealers piles i v (f.sought v s.3) in
          let here : In v o.visited =
          In-part n (kept old) parts i o.visited (kept-at old i o there.1) v owned a in
          f.new v s.3
          (subst (λ (x : Owner). In v x.visited) (sym (get_or_from_slice_get old i o s.1 there.1))
          here);
      once = distinct-parts n (joined new) lists-parts;
      all = λ v h fits.
          let j : ℕ = owner_of n v in
          let l : j < length new = owner-within v in
          let there = some_at new j l in
          let o : Owner = there.0 in
          let d = some-dealt n dealers piles v h in
          let here = (finds-at j o (omega arith)).all v d fits in
          part-In (kept new) j o.visited (kept-at new j o there.1) v
          (subst (λ (x : Owner). In v x.visited) (get_or_from_slice_get new j o o there.1) here);
    }
      where
        owner-within : (v : List ℕ) → owner_of n v < length new
        owner-within v = omega arith

module _ (n : ℕ) (known after : Ring) (IsSought : List ℕ → Type 0) (dealers : List Dealer)
    (d : AreDealt n known IsSought dealers) (next : Ring)
    (f : Finds (IsDealtBy dealers) known after next)
  where
    -- where workers dealt what is sought, owners find it
    pub dealt-found : (sorted : Ring) → IsPermutation next sorted →
        Finds IsSought known after sorted
    dealt-found sorted p =
        finds-permuted IsSought known after next sorted (record {
          found = next;
          listed = refl;
          finds = record {
            visited = f.visited;
            sought = λ v i. d.sought v (f.sought v i);
            new = f.new;
            once = f.once;
            all = λ v s fits. ⊎_elim
                (λ k. In-permutation (known ++ next) after v f.visited (In-left v known next k))
                (λ h. f.all v h fits)
                (d.all v s fits);
          };
        })
        p

    -- where these are too many, the limit is passed
    pub found-over : (limit : ℕ) → AreDistinct known → limit < length known + length next →
        Exceeds IsSought limit known next
    found-over limit once many = record {
      distinct = distinct-append known next once f.once (λ v i j. f.new v j i);
      sought = λ v i. d.sought v (f.sought v i);
      many = let e = length-append known next in omega arith;
    }
