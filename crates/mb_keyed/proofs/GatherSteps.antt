-- The passes of a round are gathered, one after another from the last on.
use Rattle.std.proofs.Common.{All, Bool, List, [], ap, append_assoc, arith, cond, eqb, false, inl, inr, length, not, refl, reverse, subst, sym, true, ℕ, ◌++◌, ◌||◌, ◌<◌, ◌∙◌, ◌∷◌, ◌≡◌, ◌⊎◌, ⊎_elim}
use Rattle.std.proofs.lemmas.Bool.{both_ways, eq-eqb, not-true, or_parts}
use Rattle.std.proofs.lemmas.List.Elements.{All-cons}
use Rattle.std.proofs.lemmas.List.{reverse-append, reverse-reverse}
use Rattle.std.specs.List.{filter}
use Rattle.mb_claims.specs.ClaimStep.{gathers}
use Rattle.mb_claims.specs.Closed.{ClosesAll, IsClosed}
use Rattle.mb_claims.specs.declared.views.RootView.{RootView}
use Rattle.mb_keyed.specs.declared.gathered.Left.{Left}
use Rattle.mb_keyed.specs.declared.worker.Worker.{Worker}
use Rattle.mb_keyed.specs.loops.Rounds.{IsListed}
use Rattle.mb_keyed.specs.loops.Worked.{keys_in, keys_won, notes_made, numbers}
use Rattle.mb_tables.proofs.ListLaws.{In-filter_only}
use Rattle.mb_tables.specs.Lists.{In}

-- all workers but the first ones, which are to come, are gathered
pub record AreGathered (all rest : List Worker) (before now : RootView) (old new : List ℕ)
    (left : Left) : Type 0 where
  pub done : List Worker
  pub split : all ≡ rest ++ done
  pub opened : (n : ℕ) → In n now.opened → In n (numbers rest)
  pub gathered : now.gathered ≡ keys_won done ++ before.gathered
  pub notes : now.notes ≡ notes_made done ++ before.notes
  pub all_done : left.is_left ≡ false → All (λ worker. worker.is_left ≡ false) done
  pub found : left.is_short ≡ false → new ≡ old ++ reverse (keys_won done)

-- the number of the last worker, or one of those before it
numbers-last : (rest : List Worker) (last : Worker) (n : ℕ) → In n (numbers (rest ++ last ∷ [])) →
    In n (numbers rest) ⊎ (n ≡ last.pass.knows.number)
unfolding In
numbers-last [] last n (inl e) = inr e
numbers-last [] last n (inr i) = absurd i
numbers-last (w ∷ rest) last n (inl e) = inl (inl e)
numbers-last (w ∷ rest) last n (inr i) =
    ⊎_elim (λ h. inl (inr h)) (λ e. inr e) (numbers-last rest last n i)

-- what a filter keeps passes its test
filter_passed : (p : ℕ → Bool) (n : ℕ) (xs : List ℕ) → In n (filter p xs) → p n ≡ true
unfolding In
filter_passed p n [] i = absurd i
filter_passed p n (x ∷ xs) i = by (p x) refl i (filter_passed p n xs)
  where
    by : (t : Bool) → p x ≡ t → In n (cond t (x ∷ filter p xs) (filter p xs)) →
        (In n (filter p xs) → p n ≡ true) → p n ≡ true
    by true e (inl f) more = ap p f ∙ e
    by true e (inr j) more = more j
    by false e j more = more j

-- the list with that of one worker more
list-more : (old new list won all : List ℕ) → new ≡ old ++ reverse all → reverse list ≡ won →
    new ++ list ≡ old ++ reverse (won ++ all)
list-more old new list won all e f =
    let back : list ≡ reverse won = sym (reverse-reverse list) ∙ ap reverse f in
    ap (λ xs. xs ++ list) e
    ∙ append_assoc old (reverse all) list
    ∙ ap (λ xs. old ++ (reverse all ++ xs)) back
    ∙ ap (λ xs. old ++ xs) (sym (reverse-append won all))

-- one worker more
pub gathered_more : (all left rest : List Worker) (last : Worker) (before now next : RootView)
    (old middle new : List ℕ) (sum after : Left) (lost : Bool) →
    left ≡ rest ++ last ∷ [] → AreGathered all left before now old middle sum →
    next ≡ gathers now last.pass.knows → IsListed last →
    after.is_left ≡ (sum.is_left || last.is_left) →
    after.is_short ≡ (sum.is_short || last.is_short) || lost →
    (lost ≡ false → new ≡ middle ++ keys_in last.found.items) →
    AreGathered all rest before next old new after
gathered_more all left rest last before now next old middle new sum after lost is h e listed lefts
    shorts more =
    let opened : (n : ℕ) → In n (gathers now last.pass.knows).opened → In n (numbers rest) =
    λ n i.
    let test : ℕ → Bool = λ m. not (eqb m last.pass.knows.number) in
    let kept = In-filter_only test n now.opened i in
    let passed = filter_passed test n now.opened i in
    ⊎_elim
    (λ was. was)
    (λ same. absurd (both_ways (eqb n last.pass.knows.number)
    (not-true (eqb n last.pass.knows.number) passed)
    (eq-eqb n last.pass.knows.number same)))
    (numbers-last rest last n (subst (λ l. In n (numbers l)) is (h.opened n kept))) in
    record {
      done = last ∷ h.done;
      split = h.split ∙ ap (λ l. l ++ h.done) is ∙ append_assoc rest (last ∷ []) h.done;
      opened = λ n i. opened n (subst (λ (r : RootView). In n r.opened) e i);
      gathered =
          ap (λ (r : RootView). r.gathered) e
          ∙ ap (λ l. last.pass.knows.won ++ l) h.gathered
          ∙ sym (append_assoc last.pass.knows.won (keys_won h.done) before.gathered);
      notes =
          ap (λ (r : RootView). r.notes) e
          ∙ ap (λ l. last.pass.knows.notes ++ l) h.notes
          ∙ sym (append_assoc last.pass.knows.notes (notes_made h.done) before.notes);
      all_done = λ f.
          let both = or_parts sum.is_left last.is_left (sym lefts ∙ f) in
          All-cons (λ (worker : Worker). worker.is_left ≡ false) last h.done both.1
          (h.all_done both.0);
      found = λ f.
          let outer = or_parts (sum.is_short || last.is_short) lost (sym shorts ∙ f) in
          let both = or_parts sum.is_short last.is_short outer.0 in
          more outer.1
          ∙ list-more old middle (keys_in last.found.items) last.pass.knows.won (keys_won h.done)
          (h.found both.0) (listed both.1);
    }

-- nothing stands in a list of which nothing is an element
none_in : (xs : List ℕ) → ((n : ℕ) → In n xs → ⊥) → xs ≡ []
unfolding In
none_in [] h = refl
none_in (x ∷ xs) h = absurd (h x (inl refl))

-- a list of length 0 is empty
none_left : (workers : List Worker) → length workers ≡ 0 → workers ≡ []
none_left [] e = refl
none_left (w ∷ workers) e = absurd (omega arith)

module _ (all rest : List Worker) (before now : RootView) (old new : List ℕ) (left : Left)
    (none : length rest ≡ 0) (h : AreGathered all rest before now old new left) where
  -- at the end no pass is open
  pub gathered_opened : now.opened ≡ []
  unfolding In
  gathered_opened =
      none_in now.opened
      (λ n i. subst (λ (workers : List Worker). In n (numbers workers)) (none_left rest none)
      (h.opened n i))

  -- and the root is closed
  pub gathered_closed : (0 < length rest) ⊎ ClosesAll now → IsClosed now
  gathered_closed cases =
      ⊎_elim (λ some. absurd (omega arith)) (λ closes. closes gathered_opened) cases
