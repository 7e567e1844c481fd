-- What each part of a search adds to the visited tables.
use Rattle.std.proofs.Common.{Bool, IsTrue, List, [], ap, append-nil, append_assoc, arith, false, inl, inr, length, length-append, not, refl, subst, sym, true, ℕ, ◌++◌, ◌↔◌, ◌∙◌, ◌∷◌, ◌≡◌, ◌≤◌, ◌⊎◌}
use Rattle.std.proofs.lemmas.List.Sorted.{IsPermutation-append_left, IsPermutation-append_right, IsPermutation-refl, IsPermutation-sym, IsPermutation-to_front, IsPermutation-trans, length_permutation}
use Rattle.std.specs.Bool.{MatchBool}
use Rattle.std.specs.List.Sorted.{IsPermutation}
use Rattle.mb_rings.proofs.DistinctTables.{In-permutation, distinct-append, distinct-cons, distinct-none, distinct-permutation, distinct-push}
use Rattle.mb_rings.specs.loops.Found.{AreDistinct, Exceeds, Finds, FindsMore, IsSearchFault}
use Rattle.mb_rings.specs.declared.fault.WalkFault.{WalkFault}
use Rattle.mb_rings.specs.declared.fault.WalkFault.TheVariants.{OutOfMemory, TooLarge}
use Rattle.mb_tables.proofs.ListLaws.{In-cases, In-left, In-right}
use Rattle.mb_tables.specs.Counts.{AreCounts}
use Rattle.mb_tables.specs.Lists.{In, stands_in}
use Rattle.mb_tables.proofs.StepTests.{In-from_stands_in, stands_in-no, stands_in-yes}

-- what a set answers of its keys
pub met : (answer : Bool) (keys tables : List (List ℕ)) (table : List ℕ) → keys ≡ tables →
    answer ≡ stands_in keys table → IsTrue answer ↔ In table tables
met answer keys tables table e f =
    subst (λ list. IsTrue answer ↔ In table list) e (by answer f)
  where
    by : (t : Bool) → t ≡ stands_in keys table → IsTrue t ↔ In table keys
    by true g = ((λ h. In-from_stands_in keys table (sym g)), (λ i. refl))
    by false g = ((λ h. cc), (λ i. g ∙ stands_in-yes keys table i))

-- what a set keeps of a key that is new to it
pub kept-new : (added : Bool) (keys tables after : List (List ℕ)) (table : List ℕ) →
    keys ≡ tables → added ≡ not (stands_in keys table) →
    MatchBool added (IsPermutation (table ∷ keys) after) (after ≡ keys) → (In table tables → ⊥) →
    IsPermutation (table ∷ tables) after
kept-new added keys tables after table e f h new =
    let g : added ≡ true =
    f ∙ ap not (stands_in-no keys table (λ i. new (subst (λ list. In table list) e i))) in
    subst (λ list. IsPermutation (table ∷ list) after) e
    (subst (λ t. MatchBool t (IsPermutation (table ∷ keys) after) (after ≡ keys)) g h)

-- a search that finds nothing
pub finds-none : (IsSought : List ℕ → Type 0) (before old : List (List ℕ)) →
    ((v : List ℕ) → IsSought v → AreCounts v → In v before) →
    FindsMore IsSought before before old old
unfolding In
finds-none IsSought before old all = record {
  found = [];
  listed = sym (append-nil old);
  finds = record {
    visited =
        subst (λ list. IsPermutation list before) (sym (append-nil before))
        (IsPermutation-refl before);
    sought = λ v i. absurd i;
    new = λ v i j. i;
    once = distinct-none;
    all = all;
  };
}

-- a search for one table that is new
pub finds-one : (table : List ℕ) (before after old : List (List ℕ)) →
    (In table before → ⊥) → IsPermutation (table ∷ before) after →
    FindsMore (λ v. v ≡ table) before after old (old ++ table ∷ [])
unfolding In
finds-one table before after old new p = record {
  found = table ∷ [];
  listed = refl;
  finds = record {
    visited =
        IsPermutation-trans (before ++ table ∷ []) (table ∷ before) after
        (IsPermutation-to_front before table) p;
    sought = λ v i. elim i [ inl e ↦ e | inr j ↦ absurd j ];
    new = λ v i j. elim i [ inl e ↦ new (subst (λ u. In u before) e j) | inr k ↦ k ];
    once = distinct-cons table [] (λ i. i) distinct-none;
    all = λ v e fits. In-permutation (table ∷ before) after v p (inl e);
  };
}

-- one new table more than the limit
pub exceeds-one : (table : List ℕ) (limit : ℕ) (before : List (List ℕ)) → AreDistinct before →
    (In table before → ⊥) → limit ≤ length before →
    Exceeds (λ v. v ≡ table) limit before (table ∷ [])
unfolding In
exceeds-one table limit before d new full = record {
  distinct = distinct-push before table d new;
  sought = λ v i. elim i [ inl e ↦ e | inr j ↦ absurd j ];
  many = let e = length-append before (table ∷ []) in omega arith;
}

-- two searches one after the other
pub finds-then : (IsFirst IsSecond : List ℕ → Type 0)
    (before middle after old half new : List (List ℕ)) →
    FindsMore IsFirst before middle old half → FindsMore IsSecond middle after half new →
    FindsMore (λ v. IsFirst v ⊎ IsSecond v) before after old new
finds-then IsFirst IsSecond before middle after old half new f g =
    let p =
    IsPermutation-append_left g.found (before ++ f.found) middle f.finds.visited in
    let q : IsPermutation (before ++ (f.found ++ g.found)) after =
    subst (λ list. IsPermutation list after) (append_assoc before f.found g.found)
    (IsPermutation-trans ((before ++ f.found) ++ g.found) (middle ++ g.found) after p
    g.finds.visited) in
    record {
      found = f.found ++ g.found;
      listed =
          g.listed ∙ ap (λ list. list ++ g.found) f.listed ∙ append_assoc old f.found g.found;
      finds = record {
        visited = q;
        sought = λ v i. elim (In-cases v f.found g.found i) [
          | inl j ↦ inl (f.finds.sought v j)
          | inr j ↦ inr (g.finds.sought v j)
        ];
        new = λ v i j. elim (In-cases v f.found g.found i) [
          | inl k ↦ f.finds.new v k j
          | inr k ↦
              g.finds.new v k
              (In-permutation (before ++ f.found) middle v f.finds.visited
              (In-left v before f.found j))
        ];
        once =
            distinct-append f.found g.found f.finds.once g.finds.once
            (λ v i j. g.finds.new v j
            (In-permutation (before ++ f.found) middle v f.finds.visited
            (In-right v before f.found i)));
        all = λ v h fits. elim h [
          | inl a ↦
              In-permutation (middle ++ g.found) after v g.finds.visited
              (In-left v middle g.found (f.finds.all v a fits))
          | inr a ↦ g.finds.all v a fits
        ];
      };
    }

-- a search that passes the limit after another one
pub over-then : (IsFirst IsSecond : List ℕ → Type 0) (limit : ℕ)
    (before middle old half : List (List ℕ)) (fault : WalkFault) →
    FindsMore IsFirst before middle old half →
    IsSearchFault IsSecond limit middle fault →
    IsSearchFault (λ v. IsFirst v ⊎ IsSecond v) limit before fault
over-then IsFirst IsSecond limit before middle old half OutOfMemory f h = tt
over-then IsFirst IsSecond limit before middle old half (TooLarge seen) f h =
    let more = h.1 in
    let p =
    IsPermutation-append_left more (before ++ f.found) middle f.finds.visited in
    let q : IsPermutation (before ++ (f.found ++ more)) (middle ++ more) =
    subst (λ list. IsPermutation list (middle ++ more)) (append_assoc before f.found more) p in (
      h.0,
      f.found ++ more,
      record {
        distinct =
            distinct-permutation (middle ++ more) (before ++ (f.found ++ more))
            (IsPermutation-sym (before ++ (f.found ++ more)) (middle ++ more) q) h.2.distinct;
        sought = λ v i. elim (In-cases v f.found more i) [
          | inl j ↦ inl (f.finds.sought v j)
          | inr j ↦ inr (h.2.sought v j)
        ];
        many =
            let e = length_permutation (before ++ (f.found ++ more)) (middle ++ more) q in
            let g = h.2.many in omega arith;
      },
    )

-- a search in other words
pub finds-same : (IsFirst IsSecond : List ℕ → Type 0) (before after old new : List (List ℕ)) →
    ((v : List ℕ) → IsFirst v → IsSecond v) → ((v : List ℕ) → IsSecond v → IsFirst v) →
    FindsMore IsFirst before after old new → FindsMore IsSecond before after old new
finds-same IsFirst IsSecond before after old new to back f = record {
  found = f.found;
  listed = f.listed;
  finds = record {
    visited = f.finds.visited;
    sought = λ v i. to v (f.finds.sought v i);
    new = f.finds.new;
    once = f.finds.once;
    all = λ v h fits. f.finds.all v (back v h) fits;
  };
}

-- a search past the limit in other words
pub over-same : (IsFirst IsSecond : List ℕ → Type 0) (limit : ℕ) (before : List (List ℕ))
    (fault : WalkFault) → ((v : List ℕ) → IsFirst v → IsSecond v) →
    IsSearchFault IsFirst limit before fault → IsSearchFault IsSecond limit before fault
over-same IsFirst IsSecond limit before OutOfMemory to h = tt
over-same IsFirst IsSecond limit before (TooLarge seen) to h = (
  h.0,
  h.1,
  record {
    distinct = h.2.distinct;
    sought = λ v i. to v (h.2.sought v i);
    many = h.2.many;
  },
)

-- a search on its way, within the limit
pub record IsSearching (IsSought : List ℕ → Type 0) (limit : ℕ)
    (before after old new : List (List ℕ)) : Type 0 where
  pub finds : FindsMore IsSought before after old new
  pub room : length after ≤ limit

-- the tables found in another order
pub finds-permuted : (IsSought : List ℕ → Type 0) (before after new sorted : List (List ℕ)) →
    FindsMore IsSought before after [] new → IsPermutation new sorted →
    Finds IsSought before after sorted
finds-permuted IsSought before after new sorted f p =
    let same : IsPermutation f.found sorted =
    subst (λ list. IsPermutation list sorted) f.listed p in
    let back = IsPermutation-sym f.found sorted same in
    record {
      visited =
          IsPermutation-trans (before ++ sorted) (before ++ f.found) after
          (IsPermutation-append_right before sorted f.found back) f.finds.visited;
      sought = λ v i. f.finds.sought v (In-permutation sorted f.found v back i);
      new = λ v i j. f.finds.new v (In-permutation sorted f.found v back i) j;
      once = distinct-permutation f.found sorted same f.finds.once;
      all = f.finds.all;
    }
