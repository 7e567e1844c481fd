-- Tokens with a first fault are refused for it.
use Rattle.std.proofs.Common.{Bool, Err, IsSomeAnd, List, None, Ok, Option, Some, [], ap, arith, cond, false, length, ltb, refl, slice_get, suc, sym, take, true, zero, ℕ, ℤ, ◌+◌, ◌<◌, ◌^◌, ◌≡◌, ◌∙◌, ◌∷◌}
use Rattle.std.proofs.lemmas.Bool.{ltb-true}
use Rattle.std.specs.Int.RustNames.{unsigned_abs}
use Rattle.mb_tables.specs.Entries.{IsEntry}
use Rattle.mb_text.specs.Numerals.{number_of}
use Rattle.mb_moves.proofs.AcceptedTexts.{entry_given, entry_in}
use Rattle.mb_moves.proofs.EntrySteps.{entries_after-entry, entries_after-fault, entries_after-few, entries_after-many}
use Rattle.mb_moves.specs.FirstFault.{IsNoNumber, IsWideNumber, WriteEntries}
use Rattle.mb_moves.specs.GridText.{entries_after, entry_of, entry_within}
use Rattle.mb_moves.specs.loops.Reads.{in_front}
use Rattle.mb_moves.specs.declared.fault.GridFault.{GridFault}
use Rattle.mb_moves.specs.declared.fault.GridFault.TheVariants.{BadNumber, TooFew, TooMany, TooWideNumber}

-- the tokens after it
entry_rest : (token : List ℕ) (tokens : List (List ℕ)) → WriteEntries (token ∷ tokens) →
    WriteEntries tokens
entry_rest token tokens h k d l = h (suc k) d (omega arith)

-- a token that is an entry comes before the fault
step_given : (found more : ℕ) (token : List ℕ) (others : List (List ℕ)) (fault : GridFault) →
    IsSomeAnd (number_of token) IsEntry →
    entries_after ((found + 1) + more) (found + 1) others ≡ Err fault →
    entries_after (found + suc more) found (token ∷ others) ≡ Err fault
step_given found more token others fault h e = by (number_of token) refl h
  where
    next : (found + 1) + more ≡ found + suc more
    next = omega arith

    by : (number : Option ℤ) → number_of token ≡ number → IsSomeAnd number IsEntry →
        entries_after (found + suc more) found (token ∷ others) ≡ Err fault
    by None is z = absurd z
    by (Some z) is entry =
        entries_after-entry (found + suc more) found token others z (λ r. omega arith)
        (entry_given (found + 3) (number_of token) z is entry)
        ∙ ap (in_front (z ∷ []))
        (ap (λ n. entries_after n (found + 1) others) (sym next) ∙ e)

-- the first token that is refused refuses all
pub token_given : (found more after : ℕ) (tokens : List (List ℕ)) (fault : GridFault) →
    after < more → WriteEntries (take after tokens) →
    IsSomeAnd (slice_get tokens after) (λ token. entry_of (found + after + 3) token ≡ Err fault) →
    entries_after (found + more) found tokens ≡ Err fault
token_given found zero after tokens fault l each h = absurd (omega arith)
token_given found (suc more) after [] fault l each h = absurd h
token_given found (suc more) zero (token ∷ others) fault l each h =
    let place : found + 3 ≡ found + 0 + 3 = omega arith in
    entries_after-fault (found + suc more) found token others fault (λ r. omega arith)
    (ap (λ n. entry_of n token) place ∙ h)
token_given found (suc more) (suc after) (token ∷ others) fault l each h =
    let place : (found + 1) + after + 3 ≡ found + suc after + 3 = omega arith in
    step_given found more token others fault (each 0 [] (omega arith))
    (token_given (found + 1) more after others fault (omega arith)
    (entry_rest token (take after others) each)
    (rw place h))

-- too few tokens, all of them entries
pub few_given : (found more : ℕ) (tokens : List (List ℕ)) → length tokens < more →
    WriteEntries tokens →
    entries_after (found + more) found tokens ≡ Err (TooFew (found + length tokens) (found + more))
few_given found more [] l each =
    entries_after-few (found + more) found (λ r. omega arith)
    ∙ ap (λ n. Err (TooFew n (found + more))) (omega arith)
few_given found zero (token ∷ others) l each = absurd (omega arith)
few_given found (suc more) (token ∷ others) l each =
    let place : (found + 1) + length others ≡ found + length (token ∷ others) = omega arith in
    let wanted : (found + 1) + more ≡ found + suc more = omega arith in
    step_given found more token others (TooFew (found + length (token ∷ others)) (found + suc more))
    (each 0 [] (omega arith))
    (few_given (found + 1) more others (omega arith) (entry_rest token others each)
    ∙ ap (λ n. Err (TooFew n ((found + 1) + more))) place
    ∙ ap (λ n. Err (TooFew (found + length (token ∷ others)) n)) wanted)

-- too many tokens, the wanted ones entries
pub many_given : (found more : ℕ) (tokens : List (List ℕ)) → more < length tokens →
    WriteEntries (take more tokens) →
    entries_after (found + more) found tokens ≡ Err (TooMany (found + more))
many_given found more [] l each = absurd (omega arith)
many_given found zero (token ∷ others) l each =
    let none : found + 0 ≡ found = omega arith in
    ap (λ n. entries_after n found (token ∷ others)) none
    ∙ entries_after-many found token others
    ∙ ap (λ n. Err (TooMany n)) (sym none)
many_given found (suc more) (token ∷ others) l each =
    let wanted : (found + 1) + more ≡ found + suc more = omega arith in
    step_given found more token others (TooMany (found + suc more)) (each 0 [] (omega arith))
    (many_given (found + 1) more others (omega arith)
    (entry_rest token (take more others) each)
    ∙ ap (λ n. Err (TooMany n)) wanted)

-- a number that is no entry is too wide
not_entry : (z : ℤ) → (IsEntry z → ⊥) → ltb (unsigned_abs z) (2 ^ 31) ≡ false
not_entry z h = by (ltb (unsigned_abs z) (2 ^ 31)) refl
  where
    by : (test : Bool) → ltb (unsigned_abs z) (2 ^ 31) ≡ test →
        ltb (unsigned_abs z) (2 ^ 31) ≡ false
    by true e = absurd (h (entry_in z (ltb-true (unsigned_abs z) (2 ^ 31) e)))
    by false e = e

-- a token that is no number, at its place
pub entry_err : (after : ℕ) (tokens : List (List ℕ)) (place : ℕ) → 0 + after + 3 ≡ place →
    IsSomeAnd (slice_get tokens after) IsNoNumber →
    IsSomeAnd (slice_get tokens after)
    (λ token. entry_of (0 + after + 3) token ≡ Err (BadNumber place))
entry_err after tokens place e h = by (slice_get tokens after) h
  where
    by : (token : Option (List ℕ)) → IsSomeAnd token IsNoNumber →
        IsSomeAnd token (λ token. entry_of (0 + after + 3) token ≡ Err (BadNumber place))
    by None f = f
    by (Some token) f =
        ap (entry_within (0 + after + 3)) f ∙ ap (λ n. Err (BadNumber n)) e

-- a token that is a number and no entry
pub wide_err : (after : ℕ) (tokens : List (List ℕ)) (place : ℕ) → 0 + after + 3 ≡ place →
    IsSomeAnd (slice_get tokens after) IsWideNumber →
    IsSomeAnd (slice_get tokens after)
    (λ token. entry_of (0 + after + 3) token ≡ Err (TooWideNumber place))
wide_err after tokens place e h = by (slice_get tokens after) h
  where
    wide : (number : Option ℤ) → IsSomeAnd number (λ z. IsEntry z → ⊥) →
        entry_within (0 + after + 3) number ≡ Err (TooWideNumber place)
    wide None f = absurd f
    wide (Some z) f =
        ap (λ test. cond test (Ok z) (Err (TooWideNumber (0 + after + 3))))
        (not_entry z f) ∙ ap (λ n. Err (TooWideNumber n)) e

    by : (token : Option (List ℕ)) →
        IsSomeAnd token IsWideNumber →
        IsSomeAnd token (λ token. entry_of (0 + after + 3) token ≡ Err (TooWideNumber place))
    by None f = f
    by (Some token) f = wide (number_of token) f
