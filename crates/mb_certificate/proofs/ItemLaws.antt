-- Items of a line that are written are read, and what is read is what is written.
use Rattle.std.proofs.Common.{append-nil, subst, All, List, None, Ok, Option, Result, Some, [], ap, length, map, refl, suc, sym, zero, ℕ, ◌++◌, ◌∙◌, ◌∷◌, ◌≡◌}
use Rattle.std.proofs.lemmas.List.Elements.{All-head, All-tail}
use Rattle.std.specs.List.{AllByRecursion}
use Rattle.std.specs.Option.{option_map}
use Rattle.mb_certificate.specs.CertificateText.{all_of}
use Rattle.mb_certificate.specs.Reading.{ItemsLeft, first_item, line_ends, none_left, one, times}
use Rattle.mb_tables.specs.Answers.{◌>>=◌}
use Rattle.mb_text.specs.Faults.{in_line}
use Rattle.mb_text.proofs.RecordSteps.{step_on, stepped}

-- items of a line of this number
abbrev pub items_at : ℕ → List (List ℕ) → ItemsLeft
items_at number list = record { number = number; items = list }

-- a line ends only where no item is left
pub ended : (number : ℕ) (list : List (List ℕ)) (x : Unit {0}) → none_left number list ≡ Ok x →
    list ≡ []
ended number [] x e = refl
ended number (item ∷ others) x e = absurd cc

module _ {A : Type 0} (read : List ℕ → Option A) (write : A → List ℕ) (P : A → Type 0) where
  -- an item that is written is read
  pub one_written : (number : ℕ) (x : A) (rest : List (List ℕ)) → read (write x) ≡ Some x →
      one read (items_at number (write x ∷ rest)) ≡ Ok (x, items_at number rest)
  one_written number x rest e =
      ap (λ found. in_line number (option_map (λ x. (x, items_at number rest)) found)) e

  -- so many that are written are read
  pub times_written : (number : ℕ) (xs : List A) (rest : List (List ℕ)) →
      All (λ x. read (write x) ≡ Some x) xs →
      times (one read) (length xs) (items_at number (map write xs ++ rest))
      ≡ Ok (xs, items_at number rest)
  unfolding times
  times_written number [] rest each = refl
  times_written number (x ∷ xs) rest each =
      step_on (one read (items_at number (write x ∷ map write xs ++ rest)))
      (x, items_at number (map write xs ++ rest)) _ _
      (one_written number x (map write xs ++ rest)
      (All-head (λ x. read (write x) ≡ Some x) x xs each))
      (ap (λ (found : Result (List A × ItemsLeft) ℕ).
      found >>= λ others. Ok (x ∷ others.0, others.1))
      (times_written number xs rest (All-tail (λ x. read (write x) ≡ Some x) x xs each)))

  module _ (is : (item : List ℕ) (x : A) → read item ≡ Some x → (item ≡ write x) × P x) where
    -- an item that was read is what is written
    first_read : (number : ℕ) (list : List (List ℕ)) (x : A) (rest : ItemsLeft) →
        first_item read number list ≡ Ok (x, rest) → (list ≡ write x ∷ rest.items) × P x
    first_read number [] x rest e = absurd cc
    first_read number (item ∷ others) x rest e = by (read item) refl e
      where
        by : (found : Option A) → read item ≡ found →
            in_line {A = A × ItemsLeft} number (option_map (λ x. (x, items_at number others)) found)
            ≡ Ok (x, rest) →
            (item ∷ others ≡ write x ∷ rest.items) × P x
        by None r f = absurd cc
        by (Some y) r f =
            let both : (y, items_at number others) ≡ (x, rest) = cc in
            let same = ap (λ (p : A × ItemsLeft). p.0) both in
            let after = ap (λ (p : A × ItemsLeft). p.1.items) both in
            let found = is item x (r ∙ ap Some same) in
            (ap (λ i. i ∷ others) found.0 ∙ ap (λ list. write x ∷ list) after, found.1)

    -- the same of what is left of a line
    pub one_read : (items rest : ItemsLeft) (x : A) → one read items ≡ Ok (x, rest) →
        (items.items ≡ write x ∷ rest.items) × P x
    one_read items rest x e = first_read items.number items.items x rest e

    -- so many items
    pub times_read : (count : ℕ) (items rest : ItemsLeft) (xs : List A) →
        times (one read) count items ≡ Ok (xs, rest) →
        (items.items ≡ map write xs ++ rest.items) × AllByRecursion P xs × (length xs ≡ count)
    unfolding times
    times_read zero items rest xs e =
        let both : ([], items) ≡ (xs, rest) = cc in
        let none = ap (λ (p : List A × ItemsLeft). p.0) both in
        let same = ap (λ (p : List A × ItemsLeft). p.1.items) both in
        by xs none same
      where
        by : (xs : List A) → [] ≡ xs → items.items ≡ rest.items →
            (items.items ≡ map write xs ++ rest.items) × AllByRecursion P xs × (length xs ≡ zero)
        by [] none same = (same, tt, refl)
        by (x ∷ xs) none same = absurd cc
    times_read (suc count) items rest xs e =
        let next : A × ItemsLeft → Result (List A × ItemsLeft) ℕ =
        λ first. times (one read) count first.1 >>= λ others.
        Ok (first.0 ∷ others.0, others.1) in
        let first = stepped (one read items) next (xs, rest) e in
        let after : List A × ItemsLeft → Result (List A × ItemsLeft) ℕ =
        λ others. Ok (first.0.0 ∷ others.0, others.1) in
        let more = stepped (times (one read) count first.0.1) after (xs, rest) first.2 in
        let item = one_read items first.0.1 first.0.0 first.1 in
        let others = times_read count first.0.1 more.0.1 more.0.0 more.1 in
        let both : (first.0.0 ∷ more.0.0, more.0.1) ≡ (xs, rest) = cc in
        by first.0.0 more.0.0 xs (ap (λ (p : List A × ItemsLeft). p.0) both)
        (item.0 ∙ ap (λ list. write first.0.0 ∷ list)
        (others.0 ∙ ap (λ (p : List A × ItemsLeft). map write more.0.0 ++ p.1.items) both))
        item.1 others.1 others.2
      where
        by : (y : A) (ys xs : List A) → y ∷ ys ≡ xs →
            items.items ≡ write y ∷ map write ys ++ rest.items → P y → AllByRecursion P ys →
            length ys ≡ count →
            (items.items ≡ map write xs ++ rest.items) × AllByRecursion P xs
            × (length xs ≡ suc count)
        by y ys [] none same one all many = absurd cc
        by y ys (x ∷ xs) e same one all many =
            let head : y ≡ x = cc in
            let tail : ys ≡ xs = cc in (
              same ∙ ap (λ z. write z ∷ map write ys ++ rest.items) head
                  ∙ ap (λ zs. write x ∷ map write zs ++ rest.items) tail,
              (
                subst P head one,
                subst (AllByRecursion P) tail all,
              ),
              ap suc (sym (ap length tail) ∙ many),
            )

    -- so many, to the end of the line
    pub all_of_read : (count : ℕ) (items : ItemsLeft) (xs : List A) →
        all_of read count items ≡ Ok xs →
        (items.items ≡ map write xs) × AllByRecursion P xs × (length xs ≡ count)
    all_of_read count items xs e =
        let next : List A × ItemsLeft → Result (List A) ℕ =
        λ found. line_ends found.1 >>= λ nothing. Ok found.0 in
        let first = stepped (times (one read) count items) next xs e in
        let after : Unit {0} → Result (List A) ℕ = λ nothing. Ok first.0.0 in
        let last = stepped (line_ends first.0.1) after xs first.2 in
        let same : first.0.0 ≡ xs = cc in
        let found = times_read count items first.0.1 first.0.0 first.1 in
        let none = ended first.0.1.number first.0.1.items last.0 last.1 in
        subst
        (λ ys. (items.items ≡ map write ys) × AllByRecursion P ys × (length ys ≡ count)) same (
          found.0 ∙ ap (λ list. map write first.0.0 ++ list) none
              ∙ append-nil (map write first.0.0),
          found.1,
          found.2,
        )
