-- The tables of a ring are read back from their keys, each at its place.
use Rattle.std.proofs.Common.{All, List, [], arith, get_or, length, map, subst, ℕ, ◌<◌, ◌∙◌, ◌≡◌, ◌≢◌, ⊎_elim}
use Rattle.std.proofs.lemmas.List.Sorted.{IsPermutation-map, IsPermutation-trans}
use Rattle.std.proofs.lemmas.List.{ext_get_or, get_or-map, length-map}
use Rattle.std.proofs.lemmas.Option.{get_or_from_slice_get}
use Rattle.std.specs.List.Sorted.{IsPermutation}
use Rattle.mb_keyed.specs.loops.Keyed.{FiberAt, IsOfFiber, digits_in}
use Rattle.mb_keyed.specs.loops.ReadRing.{AreReadAs, IsReadAt}
use Rattle.mb_matrix.specs.Key.{key_of}
use Rattle.mb_tables.proofs.ListLaws.{In-place, place-within}
use Rattle.mb_tables.specs.Vectors.{at}

module _ (fiber : FiberAt) (order : List ℕ) (tables : List (List ℕ)) where
  -- where no table is without cells, all are read
  pub all-read : length tables ≡ length order →
      ((k : ℕ) (d : List ℕ) → k < length order → IsReadAt fiber order k (get_or tables k d)) →
      All (λ table. table ≢ []) tables → AreReadAs fiber order tables
  all-read count each some = record {
    keys = ext_get_or 0 (map (key_of (digits_in fiber)) tables) order
        (length-map tables (key_of (digits_in fiber)) ∙ count) key_at;
    each = λ v i.
        let place = In-place tables v i in
        let within = place-within tables place.0 v place.1 in
        subst (IsOfFiber fiber) (get_or_from_slice_get tables place.0 v [] place.1)
        (one place.0 within).0;
  }
    where
      one : (k : ℕ) → k < length tables → IsOfFiber fiber (get_or tables k [])
          × (key_of (digits_in fiber) (get_or tables k []) ≡ at order k)
      one k l =
          ⊎_elim (λ blank. absurd (some k [] l blank)) (λ read. read) (each k [] (omega arith))

      key_at : (k : ℕ) → k < length (map (key_of (digits_in fiber)) tables) →
          at (map (key_of (digits_in fiber)) tables) k ≡ at order k
      key_at k l =
          let long = length-map tables (key_of (digits_in fiber)) in
          get_or-map (key_of (digits_in fiber)) tables k [] 0 (omega arith)
          ∙ (one k (omega arith)).1

  -- the keys of the tables, where first the keys and then the tables are put in another order
  pub keys-ordered : (found : List ℕ) (sorted : List (List ℕ)) → IsPermutation found order →
      AreReadAs fiber order tables → IsPermutation tables sorted →
      IsPermutation found (map (key_of (digits_in fiber)) sorted)
  keys-ordered found sorted p read q =
      IsPermutation-trans found order (map (key_of (digits_in fiber)) sorted) p
      (subst (λ list. IsPermutation list (map (key_of (digits_in fiber)) sorted)) read.keys
      (IsPermutation-map (key_of (digits_in fiber)) tables sorted q))
