-- What stands in the cache of a worker.
use Rattle.std.proofs.Common.{Bool, List, [], arith, false, inl, inr, length, nat_eq, refl, replicate, slice_index_or, slice_set, subst, suc, sym, true, zero, ℕ, ◌++◌, ◌<◌, ◌∷◌, ◌≡◌, ◌⊎◌, ⊎_elim}
use Rattle.std.proofs.lemmas.Bool.Decides.{nat_tests}
use Rattle.std.specs.Bool.{OnTrue}
use Rattle.mb_keyed.specs.loops.Worked.{AreUnknown}
use Rattle.mb_tables.proofs.ListLaws.{In-cases, In-left, In-right}
use Rattle.mb_tables.specs.Lists.{In}

-- what stands in a list of zeros is 0
pub In-zeros : (n key : ℕ) → In key (replicate n 0) → key ≡ 0
unfolding In
In-zeros zero key i = absurd i
In-zeros (suc n) key (inl e) = e
In-zeros (suc n) key (inr i) = In-zeros n key i

-- nothing stands in no list
pub In-none : (key : ℕ) → In key [] → key ≡ 0
unfolding In
In-none key i = absurd i

-- what follows from a fact of a test
on_true : (b : Bool) (P Q : Type 0) → (P → Q) → OnTrue b P → OnTrue b Q
on_true true P Q f h = f h
on_true false P Q f h = tt

-- a number that is the one at a place stands in the list
pub cached-there : (xs : List ℕ) (k key : ℕ) → k < length xs →
    OnTrue (nat_eq (slice_index_or xs k 0) key) (In key xs)
unfolding In
cached-there [] k key l = absurd (omega arith)
cached-there (x ∷ xs) zero key l = by (nat_eq x key) refl
  where
    by : (b : Bool) → nat_eq x key ≡ b → OnTrue b (In key (x ∷ xs))
    by true e = let same : key ≡ x = grind (arith, nat_tests) in inl same
    by false e = tt
cached-there (x ∷ xs) (suc k) key l =
    on_true (nat_eq (slice_index_or xs k 0) key) (In key xs) (In key (x ∷ xs)) (λ i. inr i)
    (cached-there xs k key (omega arith))

-- what stands in a list of which one place was set
pub In-set : (xs : List ℕ) (k y x : ℕ) → In x (slice_set xs k y) → In x xs ⊎ (x ≡ y)
unfolding In
In-set [] k y x i = absurd i
In-set (z ∷ xs) zero y x (inl e) = inr e
In-set (z ∷ xs) zero y x (inr i) = inl (inr i)
In-set (z ∷ xs) (suc k) y x (inl e) = inl (inl e)
In-set (z ∷ xs) (suc k) y x (inr i) = ⊎_elim (λ h. inl (inr h)) (λ e. inr e) (In-set xs k y x i)

-- one key more is listed
pub unknown-one : (cache keys unknown : List ℕ) (x : ℕ) → AreUnknown cache keys unknown →
    AreUnknown cache (keys ++ x ∷ []) (unknown ++ x ∷ [])
unknown-one cache keys unknown x h = record {
  only = λ key i. ⊎_elim
      (λ old. In-left key keys (x ∷ []) (h.only key old))
      (λ new. In-right key keys (x ∷ []) new)
      (In-cases key unknown (x ∷ []) i);
  known = λ key i. ⊎_elim
      (λ old. ⊎_elim (λ there. inl there) (λ j. inr (In-left key unknown (x ∷ []) j))
      (h.known key old))
      (λ new. inr (In-right key unknown (x ∷ []) new))
      (In-cases key keys (x ∷ []) i);
}

-- or the cache has it
pub unknown-cached : (cache keys unknown : List ℕ) (x : ℕ) → In x cache →
    AreUnknown cache keys unknown → AreUnknown cache (keys ++ x ∷ []) unknown
unfolding In
unknown-cached cache keys unknown x there h = record {
  only = λ key i. In-left key keys (x ∷ []) (h.only key i);
  known = λ key i. ⊎_elim
      (λ old. h.known key old)
      (λ new. inl (⊎_elim (λ e. subst (λ k. In k cache) (sym e) there) (λ none. absurd none) new))
      (In-cases key keys (x ∷ []) i);
}
