-- Tokens that are refused have a first fault.
use Rattle.std.proofs.Common.{Bool, Err, IsSomeAnd, List, None, Ok, Option, Result, Some, [], ap, arith, cond, false, length, ltb, refl, subst, suc, sym, take, true, zero, ℕ, ℤ, ◌+◌, ◌<◌, ◌^◌, ◌≡◌, ◌∙◌, ◌∷◌}
use Rattle.std.proofs.lemmas.Bool.{ltb-false}
use Rattle.std.specs.Int.RustNames.{unsigned_abs}
use Rattle.mb_tables.specs.Entries.{IsEntry}
use Rattle.mb_text.specs.Numerals.{number_of}
use Rattle.mb_moves.proofs.AcceptedTexts.{entry_taken, in_entry}
use Rattle.mb_moves.proofs.EntrySteps.{entries_after-done, entries_after-entry, entries_after-fault, entries_after-few}
use Rattle.mb_moves.proofs.GivenFaults.{many_given}
use Rattle.mb_moves.specs.FirstFault.{EndsAt, IsNoNumber, IsWideNumber, WriteEntries}
use Rattle.mb_moves.specs.GridText.{entries_after, entry_of, entry_within}
use Rattle.mb_moves.specs.loops.Reads.{in_front}
use Rattle.mb_moves.specs.declared.fault.GridFault.{GridFault}
use Rattle.mb_moves.specs.declared.fault.GridFault.TheVariants.{BadNumber, NoSize, OutOfMemory, TooFew, TooMany, TooWideNumber}

-- the cause of each fault of the tokens that are left, where so many entries were found and so
-- many more are wanted
abbrev pub IsEntryFault : ℕ → ℕ → List (List ℕ) → GridFault → Type 0
IsEntryFault found more tokens NoSize = ⊥
IsEntryFault found more tokens (BadNumber token) =
    (after : ℕ) × EndsAt IsNoNumber more after tokens × (token ≡ found + after + 3)
IsEntryFault found more tokens (TooWideNumber token) =
    (after : ℕ) × EndsAt IsWideNumber more after tokens × (token ≡ found + after + 3)
IsEntryFault found more tokens (TooFew all wanted) =
    (wanted ≡ found + more) × (all ≡ found + length tokens) × (length tokens < more)
    × WriteEntries tokens
IsEntryFault found more tokens (TooMany wanted) =
    (wanted ≡ found + more) × (more < length tokens) × WriteEntries (take more tokens)
IsEntryFault found more tokens OutOfMemory = ⊥

-- one token more that writes an entry
entry_first : (token : List ℕ) (tokens : List (List ℕ)) → IsSomeAnd (number_of token) IsEntry →
    WriteEntries tokens → WriteEntries (token ∷ tokens)
entry_first token tokens h others zero d l = h
entry_first token tokens h others (suc k) d l = others k d (omega arith)

-- a token that is an entry is found before the wrong one
ends_later : (IsWrong : List ℕ → Type 0) (more after : ℕ) (token : List ℕ)
    (tokens : List (List ℕ)) → IsSomeAnd (number_of token) IsEntry →
    EndsAt IsWrong more after tokens → EndsAt IsWrong (suc more) (suc after) (token ∷ tokens)
ends_later IsWrong more after token tokens h ends = record {
  before = let b = ends.before in omega arith;
  entries = entry_first token (take after tokens) h ends.entries;
  next = ends.next;
}

-- the first token is the wrong one
ends_here : (IsWrong : List ℕ → Type 0) (more : ℕ) (token : List ℕ) (others : List (List ℕ)) →
    IsWrong token → EndsAt IsWrong (suc more) 0 (token ∷ others)
ends_here IsWrong more token others wrong = record {
  before = omega arith;
  entries = λ k d l. absurd (omega arith);
  next = wrong;
}

-- a token that is an entry is found before the fault
fault_later : (found more : ℕ) (token : List ℕ) (tokens : List (List ℕ)) (fault : GridFault) →
    IsSomeAnd (number_of token) IsEntry →
    IsEntryFault (found + 1) more tokens fault →
    IsEntryFault found (suc more) (token ∷ tokens) fault
fault_later found more token tokens NoSize h f = f
fault_later found more token tokens (BadNumber place) h f =
    (suc f.0, ends_later IsNoNumber more f.0 token tokens h f.1, omega (arith, f.2))
fault_later found more token tokens (TooWideNumber place) h f =
    (suc f.0, ends_later IsWideNumber more f.0 token tokens h f.1, omega (arith, f.2))
fault_later found more token tokens (TooFew all wanted) h f =
    let e = f.1 in
    let l = f.2 in
    (omega (arith, f.0), omega arith, omega arith, entry_first token tokens h f.3)
fault_later found more token tokens (TooMany wanted) h f =
    let l = f.1 in
    (omega (arith, f.0), omega arith, entry_first token (take more tokens) h f.2)
fault_later found more token tokens OutOfMemory h f = f

-- a number that is no entry
wide_refused : (z : ℤ) (place : ℕ) (fault : GridFault) → entry_within place (Some z) ≡ Err fault →
    (IsEntry z → ⊥) × (TooWideNumber place ≡ fault)
wide_refused z place fault e = by (ltb (unsigned_abs z) (2 ^ 31)) refl e
  where
    by : (test : Bool) → ltb (unsigned_abs z) (2 ^ 31) ≡ test →
        cond test (Ok z) (Err (TooWideNumber place)) ≡ Err fault →
        (IsEntry z → ⊥) × (TooWideNumber place ≡ fault)
    by true f g = absurd cc
    by false f g =
        let low = ltb-false (unsigned_abs z) (2 ^ 31) f in
        (λ entry. let high = in_entry z entry in omega arith, cc)

-- a token that is refused is wrong
entry_refused : (found more : ℕ) (token : List ℕ) (others : List (List ℕ)) (number : Option ℤ)
    (fault : GridFault) → number_of token ≡ number →
    entry_within (found + 3) number ≡ Err fault →
    IsEntryFault found (suc more) (token ∷ others) fault
entry_refused found more token others None fault is e =
    let same : BadNumber (found + 3) ≡ fault = cc in
    subst (IsEntryFault found (suc more) (token ∷ others)) same
    (0, ends_here IsNoNumber more token others is, omega arith)
entry_refused found more token others (Some z) fault is e =
    let wide = wide_refused z (found + 3) fault e in
    subst (IsEntryFault found (suc more) (token ∷ others)) wide.1
    (0, ends_here IsWideNumber more token others (rw is wide.0), omega arith)

-- an entry that was taken is one
entry_is : (place : ℕ) (token : List ℕ) (z : ℤ) → entry_of place token ≡ Ok z →
    IsSomeAnd (number_of token) IsEntry
entry_is place token z e =
    let t = entry_taken place (number_of token) z e in
    rw t.0 t.1

-- a value is no refusal
ok_err : {A : Type 0} (r : Result A GridFault) (x : A) (fault : GridFault) → r ≡ Ok x →
    r ≡ Err fault → ⊥
ok_err r x fault e f = cc

-- a refusal has one fault
same_fault : {A : Type 0} (r : Result A GridFault) (first fault : GridFault) → r ≡ Err first →
    r ≡ Err fault → first ≡ fault
same_fault r first fault e f = cc

-- a refusal after entries
front_err : (front : List ℤ) (left : Result (List ℤ) GridFault) (fault : GridFault) →
    in_front front left ≡ Err fault → left ≡ Err fault
front_err front (Ok zs) fault e = absurd cc
front_err front (Err first) fault e = cc

module _ (found : ℕ) (fault : GridFault) where
  -- nothing is wanted, and no token is left
  taken_none : entries_after (found + 0) found [] ≡ Err fault → ⊥
  taken_none e =
      let none : found + 0 ≡ found = omega arith in
      ok_err _ [] fault (ap (λ n. entries_after n found []) none ∙ entries_after-done found) e

  -- entries are wanted, and no token is left
  taken_few : (more : ℕ) → entries_after (found + suc more) found [] ≡ Err fault →
      IsEntryFault found (suc more) [] fault
  taken_few more e =
      subst (IsEntryFault found (suc more) [])
      (same_fault _ _ fault (entries_after-few (found + suc more) found (λ r. omega arith)) e)
      (refl, omega arith, omega arith, λ k d l. absurd (omega arith))

  -- nothing is wanted, and a token is left
  taken_many : (token : List ℕ) (others : List (List ℕ)) →
      entries_after (found + 0) found (token ∷ others) ≡ Err fault →
      IsEntryFault found 0 (token ∷ others) fault
  taken_many token others e =
      let none : WriteEntries (take 0 (token ∷ others)) = λ k d l. absurd (omega arith) in
      subst (IsEntryFault found 0 (token ∷ others))
      (same_fault _ _ fault (many_given found 0 (token ∷ others) (omega arith) none) e)
      (refl, omega arith, none)

-- tokens that are refused have their first fault
pub fault_taken : (found more : ℕ) (tokens : List (List ℕ)) (fault : GridFault) →
    entries_after (found + more) found tokens ≡ Err fault → IsEntryFault found more tokens fault
fault_taken found zero [] fault e = absurd (taken_none found fault e)
fault_taken found (suc more) [] fault e = taken_few found fault more e
fault_taken found zero (token ∷ others) fault e = taken_many found fault token others e
fault_taken found (suc more) (token ∷ others) fault e =
    by (entry_of (found + 3) token) refl (fault_taken (found + 1) more others fault)
  where
    next : (found + 1) + more ≡ found + suc more
    next = omega arith

    by : (r : Result ℤ GridFault) → entry_of (found + 3) token ≡ r →
        (entries_after ((found + 1) + more) (found + 1) others ≡ Err fault →
        IsEntryFault (found + 1) more others fault) →
        IsEntryFault found (suc more) (token ∷ others) fault
    by (Err first) is others_taken =
        let same = same_fault _ first fault (entries_after-fault (found + suc more) found token
        others first (λ r. omega arith) is) e in
        entry_refused found more token others (number_of token) fault refl (is ∙ ap Err same)
    by (Ok z) is others_taken =
        let left = front_err (z ∷ []) _ fault (sym (entries_after-entry (found + suc more) found
        token others z (λ r. omega arith) is) ∙ e) in
        fault_later found more token others fault (entry_is (found + 3) token z is)
        (others_taken (ap (λ n. entries_after n (found + 1) others) next ∙ left))
