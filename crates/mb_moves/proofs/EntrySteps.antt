-- Entries from left to right, one after the other.
use Rattle.std.proofs.Common.{Err, List, None, Ok, Option, Result, Some, [], ap, cond, refl, sym, ℕ, ℤ, ◌+◌, ◌++◌, ◌≡◌, ◌≢◌, ◌∙◌, ◌∷◌, append_assoc}
use Rattle.std.proofs.lemmas.Bool.{eq-eqb, ne_eqb}
use Rattle.mb_tables.specs.Answers.{IsRefused, ◌>>=◌}
use Rattle.mb_moves.specs.GridText.{cause, entries_after, entry_of}
use Rattle.mb_moves.specs.loops.Reads.{in_front}
use Rattle.mb_moves.specs.declared.fault.GridFault.{GridFault}
use Rattle.mb_moves.specs.declared.fault.GridFault.TheVariants.{BadNumber, NoSize, OutOfMemory, TooFew, TooMany, TooWideNumber}

-- a refusal of one reading is that of another that stops where the first does
pub refused_on : {X Y : Type 0} (cause : Option GridFault) (first : Result X GridFault)
    (whole : Result Y GridFault) → IsRefused cause first →
    ((fault : GridFault) → first ≡ Err fault → whole ≡ Err fault) → IsRefused cause whole
refused_on None first whole h on = tt
refused_on (Some fault) first whole h on = on fault h

-- a fault that a text has is the one to answer
pub refused_with : {Y : Type 0} (fault : GridFault) (says : Result Y GridFault) →
    says ≡ Err fault → IsRefused (cause fault) says
refused_with NoSize says e = e
refused_with (BadNumber token) says e = e
refused_with (TooWideNumber token) says e = e
refused_with (TooFew found wanted) says e = e
refused_with (TooMany wanted) says e = e
refused_with OutOfMemory says e = tt

-- nothing in front
pub in_front-nil : (left : Result (List ℤ) GridFault) → in_front [] left ≡ left
in_front-nil (Ok entries) = refl
in_front-nil (Err fault) = refl

-- in front of what stands in front
pub in_front-in_front : (first second : List ℤ) (left : Result (List ℤ) GridFault) →
    in_front first (in_front second left) ≡ in_front (first ++ second) left
in_front-in_front first second (Ok entries) = ap Ok (sym (append_assoc first second entries))
in_front-in_front first second (Err fault) = refl

-- an entry, and those of the tokens after it
abbrev pub and_others : ℕ → ℕ → List (List ℕ) → ℤ → Result (List ℤ) GridFault
and_others wanted found others entry =
    entries_after wanted found others >>= λ entries. Ok (entry ∷ entries)

module _ (wanted found : ℕ) where
  -- no token, and entries are wanted
  pub entries_after-few : found ≢ wanted →
      entries_after wanted found [] ≡ Err (TooFew found wanted)
  unfolding entries_after
  entries_after-few more =
      ap (λ done. cond done (Ok []) (Err (TooFew found wanted))) (ne_eqb found wanted more)

  -- a token that is an entry
  pub entries_after-entry : (token : List ℕ) (others : List (List ℕ)) (entry : ℤ) → found ≢ wanted →
      entry_of (found + 3) token ≡ Ok entry →
      entries_after wanted found (token ∷ others)
      ≡ in_front (entry ∷ []) (entries_after wanted (found + 1) others)
  unfolding entries_after
  entries_after-entry token others entry more h =
      let on = and_others wanted (found + 1) others in
      ap (λ done. cond done (Err (TooMany wanted)) (entry_of (found + 3) token >>= on))
      (ne_eqb found wanted more)
      ∙ ap (λ (read : Result ℤ GridFault). read >>= on) h

  -- a token that is none
  pub entries_after-fault : (token : List ℕ) (others : List (List ℕ)) (fault : GridFault) →
      found ≢ wanted →
      entry_of (found + 3) token ≡ Err fault →
      entries_after wanted found (token ∷ others) ≡ Err fault
  unfolding entries_after
  entries_after-fault token others fault more h =
      let on = and_others wanted (found + 1) others in
      ap (λ done. cond done (Err (TooMany wanted)) (entry_of (found + 3) token >>= on))
      (ne_eqb found wanted more)
      ∙ ap (λ (read : Result ℤ GridFault). read >>= on) h

-- no token where all was found
pub entries_after-done : (wanted : ℕ) → entries_after wanted wanted [] ≡ Ok []
unfolding entries_after
entries_after-done wanted =
    ap (λ done. cond done (Ok []) (Err (TooFew wanted wanted))) (eq-eqb wanted wanted refl)

-- a token where all was found
pub entries_after-many : (wanted : ℕ) (token : List ℕ) (others : List (List ℕ)) →
    entries_after wanted wanted (token ∷ others) ≡ Err (TooMany wanted)
unfolding entries_after
entries_after-many wanted token others =
    let on = and_others wanted (wanted + 1) others in
    ap (λ done. cond done (Err (TooMany wanted)) (entry_of (wanted + 3) token >>= on))
    (eq-eqb wanted wanted refl)
