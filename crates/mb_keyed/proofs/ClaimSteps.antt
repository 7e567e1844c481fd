-- What a worker claims, part by part.
use Rattle.std.proofs.Common.{List, [], ap, false, inl, inr, refl, reverse, subst, sym, ℕ, ◌++◌, ◌∙◌, ◌∷◌, ◌≡◌, ◌≢◌, ◌⊎◌, ⊎_elim}
use Rattle.std.proofs.lemmas.List.{reverse-append}
use Rattle.mb_claims.specs.Notes.{IsNoted, Keeps}
use Rattle.mb_keyed.specs.declared.worker.Worker.{Worker}
use Rattle.mb_keyed.specs.loops.Worked.{AreCached, AreUnknown, Claims, keys_in}
use Rattle.mb_tables.specs.Lists.{In}

-- a list with one more in front
In-longer : (key : ℕ) (before after : List ℕ) → after ≡ key ∷ before → (k : ℕ) → In k after →
    In k before ⊎ (k ≡ key)
unfolding In
In-longer key before after e k i = ⊎_elim (λ h. inr h) (λ h. inl h) (subst (In k) e i)

-- a reversed list with one more at its end
reverse-push : (xs ys : List ℕ) (x : ℕ) (more won : List ℕ) → ys ≡ xs ++ x ∷ [] →
    more ≡ x ∷ won → reverse xs ≡ won → reverse ys ≡ more
reverse-push xs ys x more won e f h =
    ap reverse e ∙ reverse-append xs (x ∷ []) ∙ ap (λ l. x ∷ l) h ∙ sym f

-- a key was won, and added to the list
pub claims-won : (key : ℕ) (before after : Worker) →
    after.pass.knows.number ≡ before.pass.knows.number →
    Keeps before.pass.knows.notes after.pass.knows.notes →
    after.pass.knows.won ≡ key ∷ before.pass.knows.won →
    IsNoted after.pass.knows.notes key →
    (after.is_left ≡ before.is_left) →
    (after.is_short ≡ false → before.is_short ≡ false) →
    (after.is_short ≡ false → keys_in after.found.items ≡ keys_in before.found.items ++ key ∷ []) →
    Claims (λ k. k ≡ key) before after
claims-won key before after number keeps won noted left short found = record {
  number = number;
  notes = keeps;
  won = λ k i. In-longer key before.pass.knows.won after.pass.knows.won won k i;
  told = λ e. (
    sym left ∙ e,
    λ k same. subst (IsNoted after.pass.knows.notes) (sym same) noted,
  );
  listed = λ e. (
    short e,
    λ was. reverse-push (keys_in before.found.items) (keys_in after.found.items) key
        after.pass.knows.won
        before.pass.knows.won (found e) won was,
  );
}

-- nothing is sought
pub claims-none : (worker : Worker) (IsSought : ℕ → Type 0) → ((k : ℕ) → IsSought k → ⊥) →
    Claims IsSought worker worker
claims-none worker IsSought none = record {
  number = refl;
  notes = λ n i. i;
  won = λ k i. inl i;
  told = λ e. (e, λ k s. absurd (none k s));
  listed = λ e. (e, λ was. was);
}

-- one claim after another
pub claims-then : (P Q : ℕ → Type 0) (before middle after : Worker) → Claims P before middle →
    Claims Q middle after → Claims (λ k. P k ⊎ Q k) before after
claims-then P Q before middle after f g = record {
  number = g.number ∙ f.number;
  notes = λ n i. g.notes n (f.notes n i);
  won = λ k i. ⊎_elim
      (λ was. ⊎_elim (λ old. inl old) (λ p. inr (inl p)) (f.won k was))
      (λ q. inr (inr q))
      (g.won k i);
  told = λ e. let second = g.told e in let first = f.told second.0 in (
    first.0,
    λ k s. ⊎_elim
        (λ p. let n = first.1 k p in (n.0, g.notes _ n.1))
        (λ q. second.1 k q)
        s,
  );
  listed = λ e. let second = g.listed e in let first = f.listed second.0 in (
    first.0,
    λ was. second.1 (first.1 was),
  );
}

-- the same keys, sought in other words
pub claims-same : (P Q : ℕ → Type 0) (before after : Worker) → ((k : ℕ) → P k → Q k) →
    ((k : ℕ) → Q k → P k) → Claims P before after → Claims Q before after
claims-same P Q before after to from f = record {
  number = f.number;
  notes = f.notes;
  won = λ k i. ⊎_elim (λ old. inl old) (λ p. inr (to k p)) (f.won k i);
  told = λ e. let t = f.told e in (t.0, λ k q. t.1 k (from k q));
  listed = f.listed;
}

-- the keys that a cache didn't have were claimed, and the others are noted
pub claims-known : (keys unknown : List ℕ) (before after : Worker) →
    AreCached before.pass.knows.notes before.cache → AreUnknown before.cache keys unknown →
    ((k : ℕ) → In k keys → k ≢ 0) → Claims (λ k. In k unknown) before after →
    Claims (λ k. In k keys) before after
claims-known keys unknown before after cached listed some f = record {
  number = f.number;
  notes = f.notes;
  won = λ k i. ⊎_elim (λ old. inl old) (λ p. inr (listed.only k p)) (f.won k i);
  told = λ e. let t = f.told e in (
    t.0,
    λ k i. ⊎_elim
        (λ there. let n = cached k there (some k i) in (n.0, f.notes _ n.1))
        (λ j. t.1 k j)
        (listed.known k i),
  );
  listed = f.listed;
}
