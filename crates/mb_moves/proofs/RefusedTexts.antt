-- Why tokens are refused: the sizes, or the first fault of the entries.
use Rattle.std.proofs.Common.{Bool, Err, List, None, Ok, Option, Result, Some, [], ap, arith, cond, drop, false, inl, inr, leb, negsuc, pos, refl, subst, sym, true, zero-add, ℕ, ℤ, ◌&&◌, ◌*◌, ◌+◌, ◌≡◌, ◌⊎◌, ◌∙◌, ◌∷◌}
use Rattle.mb_tables.specs.Answers.{◌>>=◌}
use Rattle.mb_tables.specs.Limits.{most_cells}
use Rattle.mb_tables.specs.Rows.{array_of}
use Rattle.mb_text.specs.Numerals.{number_of}
use Rattle.mb_moves.proofs.AcceptedTexts.{size_given, size_taken}
use Rattle.mb_moves.proofs.ArraySteps.{and_entries, and_width, array_in-count_fault, array_in-none, array_in-one, array_in-sizes, array_in-width_fault}
use Rattle.mb_moves.proofs.FirstFaults.{IsEntryFault, fault_taken}
use Rattle.mb_moves.proofs.GivenFaults.{entry_err, few_given, many_given, token_given, wide_err}
use Rattle.mb_moves.specs.FirstFault.{IsFirstFault, WriteSizes}
use Rattle.mb_moves.specs.GridText.{array_in, entries_after, size_of, size_within}
use Rattle.mb_moves.specs.declared.fault.GridFault.{GridFault}
use Rattle.mb_moves.specs.declared.fault.GridFault.TheVariants.{BadNumber, NoSize, OutOfMemory, TooFew, TooMany, TooWideNumber}

-- a size is refused for one cause
size_err : (lowest highest : ℕ) (number : Option ℤ) (fault : GridFault) →
    size_within lowest highest number ≡ Err fault → NoSize ≡ fault
size_err lowest highest None fault e = cc
size_err lowest highest (Some (negsuc n)) fault e = cc
size_err lowest highest (Some (pos n)) fault e = by (leb lowest n && leb n highest) e
  where
    by : (test : Bool) → cond test (Ok n) (Err NoSize) ≡ Err fault → NoSize ≡ fault
    by true f = absurd cc
    by false f = cc

-- a refused step of two: the first, or the second
bind_err : {A B : Type 0} (r : Result A GridFault) (f : A → Result B GridFault)
    (fault : GridFault) → (r >>= f) ≡ Err fault →
    (r ≡ Err fault) ⊎ ((x : A) × (r ≡ Ok x) × (f x ≡ Err fault))
bind_err (Ok x) f fault e = inr (x, refl, e)
bind_err (Err first) f fault e = inl cc

-- what follows the sizes
made_err : {A B : Type 0} (r : Result A GridFault) (make : A → B) (fault : GridFault) →
    (r >>= λ x. Ok (make x)) ≡ Err fault → r ≡ Err fault
made_err (Ok x) make fault e = absurd cc
made_err (Err first) make fault e = cc

module _ (lowest highest : ℕ) where
  -- sizes that were taken are written
  sizes_taken : (first second : List ℕ) (others : List (List ℕ)) (count width : ℕ) →
      size_of lowest highest first ≡ Ok count → size_of 1 most_cells second ≡ Ok width →
      WriteSizes lowest highest (first ∷ second ∷ others) count width
  sizes_taken first second others count width e f =
      let r = size_taken lowest highest (number_of first) count e in
      let c = size_taken 1 most_cells (number_of second) width f in
      record {
        written = ap (λ number. number ∷ number_of second ∷ []) r.0
            ∙ ap (λ number. Some (pos count) ∷ number ∷ []) c.0;
        some = r.1;
        few = r.2;
        positive = c.1;
        narrow = c.2;
      }

  -- the first fault of the entries is that of the text
  fault_after_sizes : (tokens : List (List ℕ)) (count width : ℕ) (fault : GridFault) →
      WriteSizes lowest highest tokens count width →
      IsEntryFault 0 (count * width) (drop 2 tokens) fault →
      IsFirstFault lowest highest tokens fault
  fault_after_sizes tokens count width NoSize sizes h = absurd h
  fault_after_sizes tokens count width (BadNumber token) sizes h =
      (count, width, h.0, sizes, h.1, omega (arith, h.2))
  fault_after_sizes tokens count width (TooWideNumber token) sizes h =
      (count, width, h.0, sizes, h.1, omega (arith, h.2))
  fault_after_sizes tokens count width (TooFew found wanted) sizes h =
      let few = h.2 in
      (count, width, sizes, omega (arith, h.0), omega (arith, h.1), omega (arith, h.1), h.3)
  fault_after_sizes tokens count width (TooMany wanted) sizes h =
      let many = h.1 in
      let e : wanted ≡ count * width = omega (arith, h.0) in
      (count, width, sizes, e, omega arith, rw e h.2)
  fault_after_sizes tokens count width OutOfMemory sizes h = absurd h

  -- fewer than two tokens write no sizes
  no_sizes : (tokens : List (List ℕ)) (fault : GridFault) →
      ((count width : ℕ) → WriteSizes lowest highest tokens count width → ⊥) → NoSize ≡ fault →
      IsFirstFault lowest highest tokens fault
  no_sizes tokens fault h e = subst (IsFirstFault lowest highest tokens) e h

  -- the sizes that two tokens write
  sizes_given : (first second : List ℕ) (others : List (List ℕ)) (count width : ℕ) →
      WriteSizes lowest highest (first ∷ second ∷ others) count width →
      (size_of lowest highest first ≡ Ok count) × (size_of 1 most_cells second ≡ Ok width)
  sizes_given first second others count width h =
      let written = h.written in
      let one : number_of first ≡ Some (pos count) = cc in
      let two : number_of second ≡ Some (pos width) = cc in (
        size_given lowest highest (number_of first) count one h.some h.few,
        size_given 1 most_cells (number_of second) width two h.positive h.narrow,
      )

  -- a size that is refused isn't written
  refused_size : (r : Result ℕ GridFault) (n : ℕ) (fault : GridFault) → r ≡ Err fault →
      r ≡ Ok n → ⊥
  refused_size r n fault e f = cc

  -- tokens that are refused have this first fault
  pub array_refused : (tokens : List (List ℕ)) (fault : GridFault) →
      array_in lowest highest tokens ≡ Err fault → IsFirstFault lowest highest tokens fault
  unfolding array_in
  array_refused [] fault e = no_sizes [] fault (λ count width h. let w = h.written in cc) cc
  array_refused (first ∷ []) fault e =
      no_sizes (first ∷ []) fault (λ count width h. let w = h.written in cc) cc
  array_refused (first ∷ second ∷ others) fault e =
      elim (bind_err (size_of lowest highest first) (and_width second others) fault e) [
        | inl refused ↦
            no_sizes (first ∷ second ∷ others) fault
            (λ count width h. refused_size (size_of lowest highest first) count fault refused
            (sizes_given first second others count width h).0)
            (size_err lowest highest (number_of first) fault refused)
        | inr read ↦
            second_size read.0 read.1
            (bind_err (size_of 1 most_cells second) (and_entries others read.0) fault read.2)
      ]
    where
      second_size : (count : ℕ) → size_of lowest highest first ≡ Ok count →
          (size_of 1 most_cells second ≡ Err fault)
          ⊎ ((width : ℕ) × (size_of 1 most_cells second ≡ Ok width)
          × (and_entries others count width ≡ Err fault)) →
          IsFirstFault lowest highest (first ∷ second ∷ others) fault
      second_size count is (inl refused) =
          no_sizes (first ∷ second ∷ others) fault
          (λ n width h. refused_size (size_of 1 most_cells second) width fault refused
          (sizes_given first second others n width h).1)
          (size_err 1 most_cells (number_of second) fault refused)
      second_size count is (inr read) =
          let wanted = count * read.0 in
          let left = made_err (entries_after wanted 0 others) (array_of read.0 count) fault
          read.2 in
          fault_after_sizes (first ∷ second ∷ others) count read.0 fault
          (sizes_taken first second others count read.0 is read.1)
          (fault_taken 0 wanted others fault
          (ap (λ n. entries_after n 0 others) (zero-add wanted) ∙ left))

  -- the entries' fault makes the refusal
  after_sizes : (tokens : List (List ℕ)) (count width : ℕ) (fault : GridFault) →
      WriteSizes lowest highest tokens count width →
      entries_after (0 + count * width) 0 (drop 2 tokens) ≡ Err fault →
      array_in lowest highest tokens ≡ Err fault
  after_sizes [] count width fault sizes e = let w = sizes.written in absurd cc
  after_sizes (first ∷ []) count width fault sizes e = let w = sizes.written in absurd cc
  after_sizes (first ∷ second ∷ others) count width fault sizes e =
      let given = sizes_given first second others count width sizes in
      array_in-sizes lowest highest first second others count width given.0 given.1
      ∙ ap (λ (r : Result (List ℤ) GridFault). r >>= λ zs. Ok (array_of width count zs))
      (ap (λ n. entries_after n 0 others) (sym (zero-add (count * width))) ∙ e)

  -- no sizes are refused so
  without_sizes : (tokens : List (List ℕ)) →
      ((count width : ℕ) → WriteSizes lowest highest tokens count width → ⊥) →
      array_in lowest highest tokens ≡ Err NoSize
  without_sizes [] h = array_in-none lowest highest
  without_sizes (first ∷ []) h = array_in-one lowest highest first
  without_sizes (first ∷ second ∷ others) h =
      by (size_of lowest highest first) refl (size_of 1 most_cells second) refl
    where
      by : (r : Result ℕ GridFault) → size_of lowest highest first ≡ r →
          (s : Result ℕ GridFault) → size_of 1 most_cells second ≡ s →
          array_in lowest highest (first ∷ second ∷ others) ≡ Err NoSize
      by (Err fault) is s f =
          array_in-count_fault lowest highest first second others fault is
          ∙ ap Err (sym (size_err lowest highest (number_of first) fault is))
      by (Ok count) is (Err fault) f =
          array_in-width_fault lowest highest first second others count fault is f
          ∙ ap Err (sym (size_err 1 most_cells (number_of second) fault f))
      by (Ok count) is (Ok width) f =
          absurd (h count width (sizes_taken first second others count width is f))

  -- and tokens with this first fault are refused
  pub array_faulty : (tokens : List (List ℕ)) (fault : GridFault) →
      IsFirstFault lowest highest tokens fault → array_in lowest highest tokens ≡ Err fault
  array_faulty tokens NoSize h = without_sizes tokens h
  array_faulty tokens (BadNumber token) h =
      after_sizes tokens h.0 h.1 (BadNumber token) h.3
      (token_given 0 (h.0 * h.1) h.2 (drop 2 tokens) (BadNumber token) h.4.before h.4.entries
      (entry_err h.2 (drop 2 tokens) token (omega (arith, h.5)) h.4.next))
  array_faulty tokens (TooWideNumber token) h =
      after_sizes tokens h.0 h.1 (TooWideNumber token) h.3
      (token_given 0 (h.0 * h.1) h.2 (drop 2 tokens) (TooWideNumber token) h.4.before h.4.entries
      (wide_err h.2 (drop 2 tokens) token (omega (arith, h.5)) h.4.next))
  array_faulty tokens (TooFew found wanted) h =
      let few = h.5 in
      let size = h.4 in
      let all = h.3 in
      after_sizes tokens h.0 h.1 (TooFew found wanted) h.2
      (few_given 0 (h.0 * h.1) (drop 2 tokens) (omega arith) h.6
      ∙ ap (λ n. Err (TooFew n (0 + h.0 * h.1))) (omega arith)
      ∙ ap (λ n. Err (TooFew found n)) (omega arith))
  array_faulty tokens (TooMany wanted) h =
      let all = h.3 in
      let many = h.4 in
      after_sizes tokens h.0 h.1 (TooMany wanted) h.2
      (many_given 0 (h.0 * h.1) (drop 2 tokens) (omega arith) (rw all at h.5)
      ∙ ap (λ n. Err (TooMany n)) (omega arith))
  array_faulty tokens OutOfMemory h = absurd h
