-- What rounds find, one after another.
use Rattle.std.proofs.Common.{List, [], false, inl, inr, refl, reverse, subst, sym, ℕ, ◌++◌, ◌∷◌, ◌≡◌, ◌↔◌, ◌⊎◌, ⊎_elim}
use Rattle.std.proofs.lemmas.List.{reverse-append}
use Rattle.mb_claims.specs.Lists.{AreDistinctKeys}
use Rattle.mb_keyed.specs.loops.Keyed.{AreFound}
use Rattle.mb_keyed.specs.loops.Rounds.{IsRound}
use Rattle.mb_keyed.specs.declared.gathered.Left.{Left}
use Rattle.mb_tables.proofs.ListLaws.{In-cases, In-left, In-right}
use Rattle.mb_tables.specs.Lists.{In}

-- the first of two lists of distinct numbers
distinct-first : (xs ys : List ℕ) → AreDistinctKeys (xs ++ ys) → AreDistinctKeys xs
distinct-first [] ys d = tt
distinct-first (x ∷ xs) ys d = ((λ i. d.0 (In-left x xs ys i)), distinct-first xs ys d.1)

-- they have no number in common
distinct-parts : (xs ys : List ℕ) → AreDistinctKeys (xs ++ ys) → (n : ℕ) → In n xs → In n ys → ⊥
unfolding In
distinct-parts [] ys d n i j = i
distinct-parts (x ∷ xs) ys d n (inl e) j =
    d.0 (In-right x xs ys (subst (λ m. In m ys) e j))
distinct-parts (x ∷ xs) ys d n (inr i) j = distinct-parts xs ys d.1 n i j

-- two lists of distinct numbers that have none in common
pub distinct-both : (xs ys : List ℕ) → AreDistinctKeys xs → AreDistinctKeys ys →
    ((n : ℕ) → In n xs → In n ys → ⊥) → AreDistinctKeys (xs ++ ys)
unfolding In
distinct-both [] ys d e h = e
distinct-both (x ∷ xs) ys d e h = (
  (λ i. ⊎_elim (λ j. d.0 j) (λ j. h x (inl refl) j) (In-cases x xs ys i)),
  distinct-both xs ys d.1 e (λ n i j. h n (inr i) j),
)

-- a list read from its end
reverse-one : (x : ℕ) (xs : List ℕ) → reverse (x ∷ xs) ≡ reverse xs ++ x ∷ []
reverse-one x xs = reverse-append (x ∷ []) xs

-- what stands in a list read from its end
pub In-reversed : (n : ℕ) (xs : List ℕ) → In n (reverse xs) → In n xs
unfolding In
In-reversed n [] i = i
In-reversed n (x ∷ xs) i =
    ⊎_elim
    (λ j. inr (In-reversed n xs j))
    (λ j. ⊎_elim (λ e. inl e) (λ k. absurd k) j)
    (In-cases n (reverse xs) (x ∷ []) (subst (λ list. In n list) (reverse-one x xs) i))

-- and the other way round
pub reversed-In : (n : ℕ) (xs : List ℕ) → In n xs → In n (reverse xs)
unfolding In
reversed-In n [] i = i
reversed-In n (x ∷ xs) (inl e) =
    subst (λ list. In n list) (sym (reverse-one x xs))
    (In-right n (reverse xs) (x ∷ []) (inl e))
reversed-In n (x ∷ xs) (inr i) =
    subst (λ list. In n list) (sym (reverse-one x xs))
    (In-left n (reverse xs) (x ∷ []) (reversed-In n xs i))

-- its numbers are distinct where those of the list are
distinct-reversed : (xs : List ℕ) → AreDistinctKeys xs → AreDistinctKeys (reverse xs)
unfolding In
distinct-reversed [] d = tt
distinct-reversed (x ∷ xs) d =
    subst AreDistinctKeys (sym (reverse-one x xs))
    (distinct-both (reverse xs) (x ∷ []) (distinct-reversed xs d.1) ((λ i. i), tt)
    (λ n i. ⊎_elim
    (λ e. d.0 (subst (λ m. In m xs) e (In-reversed n xs i)))
    (λ k. k)))

-- what is gathered after a round
pub round-near : (IsSought : ℕ → Type 0) (before after old new : List ℕ) (left : Left) →
    IsRound IsSought before after old new left → (key : ℕ) → In key after →
    In key before ⊎ IsSought key
round-near IsSought before after old new left r key i =
    ⊎_elim (λ k. inr (r.sought key k)) (λ k. inl k)
    (In-cases key r.won before (subst (λ list. In key list) r.gathered i))

module _ (IsSought : ℕ → Type 0) (known : List ℕ) where
  -- before the first round
  pub found-none : (found : List ℕ) → found ≡ [] → AreFound IsSought known known found
  unfolding In
  found-none found e = subst (AreFound IsSought known known) (sym e) (record {
    fresh = record { once = tt; new = λ key i j. i; sought = λ key i. absurd i };
    all = λ key. ((λ i. inl i), (λ h. ⊎_elim (λ i. i) (λ j. absurd j) h));
  })

  -- the gathered keys in another order
  pub found-grown : (gathered grown found : List ℕ) → AreFound IsSought known gathered found →
      ((key : ℕ) → In key grown ↔ In key gathered) → AreFound IsSought known grown found
  found-grown gathered grown found h same = record {
    fresh = h.fresh;
    all = λ key. ((λ i. (h.all key).0 ((same key).0 i)), (λ i. (same key).1 ((h.all key).1 i)));
  }

  module _ (before after old new : List ℕ) (left : Left)
      (r : IsRound IsSought before after old new left)
    where
      -- a won key was not gathered
      won-new : (key : ℕ) → In key r.won → In key before → ⊥
      won-new key i j =
          distinct-parts r.won before (subst AreDistinctKeys r.gathered r.once) key i j

      -- one round more
      pub found-round : AreFound IsSought known before old → left.is_short ≡ false →
          AreFound IsSought known after new
      found-round h whole =
          subst (AreFound IsSought known after) (sym (r.listed whole)) (record {
            fresh = record {
              once =
                  distinct-both old (reverse r.won) h.fresh.once
                  (distinct-reversed r.won
                  (distinct-first r.won before (subst AreDistinctKeys r.gathered r.once)))
                  (λ key i j. won-new key (In-reversed key r.won j) ((h.all key).1 (inr i)));
              new = λ key i k. ⊎_elim
                  (λ j. h.fresh.new key j k)
                  (λ j. won-new key (In-reversed key r.won j) ((h.all key).1 (inl k)))
                  (In-cases key old (reverse r.won) i);
              sought = λ key i. ⊎_elim
                  (λ j. h.fresh.sought key j)
                  (λ j. r.sought key (In-reversed key r.won j))
                  (In-cases key old (reverse r.won) i);
            };
            all = λ key. (
              (λ i. ⊎_elim
                  (λ w. inr (In-right key old (reverse r.won) (reversed-In key r.won w)))
                  (λ b. ⊎_elim
                  (λ k. inl k)
                  (λ f. inr (In-left key old (reverse r.won) f))
                  ((h.all key).0 b))
                  (In-cases key r.won before (subst (λ list. In key list) r.gathered i))),
              (λ i. subst (λ list. In key list) (sym r.gathered)
                  (⊎_elim
                  (λ k. In-right key r.won before ((h.all key).1 (inl k)))
                  (λ f. ⊎_elim
                  (λ o. In-right key r.won before ((h.all key).1 (inr o)))
                  (λ w. In-left key r.won before (In-reversed key r.won w))
                  (In-cases key old (reverse r.won) f))
                  i)),
            );
          })
