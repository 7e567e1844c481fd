-- What is left of a CSV text after a record.
use Rattle.std.proofs.Common.{List, None, Option, Some, [], ap, arith, false, inl, inr, length, refl, rules, suc, sym, true, zero, ℕ, ◌+◌, ◌-◌, ◌<◌, ◌∙◌, ◌∷◌, ◌≡◌, ◌⊎◌}
use Rattle.std.specs.Option.{unwrap_or}
use Rattle.std.proofs.lemmas.Bool.{cases_Bool}
use Rattle.csv.specs.Machine.{Read, ends_at_end, field_after, fields_after, is_end, next_record, step}
use Rattle.csv.specs.Reading.{NextIs, ReadsNext, default_config, records_from, records_next}
use Rattle.csv.specs.declared.parser.State.{State}
use Rattle.csv.specs.declared.parser.State.TheVariants as st
use Rattle.mb_data.specs.Records.{records_left}

-- a record takes a byte, or it is ended by the end of the text
abbrev pub Shortens : List ℕ → Read → Type 0
Shortens text read = (length read.2 < length text) ⊎ ((read.2 ≡ []) × (read.1 ≡ st.StartRecord))

-- a byte in front changes nothing of that
one_more : (b : ℕ) (rest : List ℕ) (read : Read) → Shortens rest read → Shortens (b ∷ rest) read
one_more b rest read (inl less) = inl (omega (arith, less))
one_more b rest read (inr ended) = inr ended

-- each record that is read does so
pub reading_shortens : (state : State) (fields : List (List ℕ)) (field text : List ℕ) (read : Read)
    → next_record default_config state fields field text ≡ Some read → Shortens text read
unfolding next_record
reading_shortens state fields field [] read is = elim (cases_Bool (ends_at_end state)) [
  | inl there ↦ inr (let e = rw there at is in (cc e, cc e))
  | inr none ↦ absurd (cc (rw none at is))
]
reading_shortens state fields field (b ∷ rest) read is =
    elim (cases_Bool (is_end (step default_config state b).1)) [
      | inl ends ↦ inl (search (rules, rw ends at is))
      | inr goes ↦ one_more b rest read
          (reading_shortens (step default_config state b).0
          (fields_after (step default_config state b).1 fields field)
          (field_after (step default_config state b).1 b field) rest read (rw goes at is))
    ]

-- nothing is read where nothing is left
pub nothing_left : (n : ℕ) → records_from default_config n st.StartRecord [] ≡ []
unfolding records_from next_record
nothing_left zero = refl
nothing_left (suc n) = refl

-- a turn more, after a record
after_one : (n : ℕ) (text : List ℕ) (read : Read) → length text < suc n → Shortens text read
    → ((state : State) (rest : List ℕ) → length rest < n
    → records_from default_config n state rest ≡ records_from default_config (suc n) state rest)
    → records_from default_config n read.1 read.2 ≡ records_from default_config
    (suc n) read.1 read.2
after_one n text read less (inl shorter) more = more read.1 read.2 (omega (arith, less, shorter))
after_one n text read less (inr ended) more =
    rw (ended.0, ended.1) (nothing_left n ∙ sym (nothing_left (suc n)))

-- with more turns than bytes, a turn more reads no further record
pub enough : (n : ℕ) (state : State) (text : List ℕ) → length text < n
    → records_from default_config n state text ≡ records_from default_config (suc n) state text
unfolding records_from
enough zero state text less = absurd (omega (arith, less))
enough (suc n) state text less = go (next_record default_config state [] [] text) refl (enough n)
  where
    go : (found : Option Read) → next_record default_config state [] [] text ≡ found
        → ((state : State) (rest : List ℕ) → length rest < n
        → records_from default_config n state rest ≡ records_from default_config (suc n) state rest)
        → records_next (records_from default_config n) found
        ≡ records_next (records_from default_config (suc n)) found
    go None is more = refl
    go (Some read) is more =
        ap (λ (records : List (List (List ℕ))). read.0 ∷ records)
        (after_one n text read less (reading_shortens state [] [] text read is) more)

-- with more turns than bytes, any further turns read no further record
enough_more : (k m n : ℕ) (state : State) (text : List ℕ) → length text < n → m ≡ k + n
    → records_from default_config n state text ≡ records_from default_config m state text
enough_more zero m n state text less is =
    ap (λ turns. records_from default_config turns state text) (omega (arith, is))
enough_more (suc k) m n state text less is =
    enough_more k (k + n) n state text less refl
    ∙ enough (k + n) state text (omega (arith, less))
    ∙ ap (λ turns. records_from default_config turns state text) (omega (arith, is))

-- what is left after a record, of a text that is read from a state
after_record : (text : List ℕ) (read : Read) → Shortens text read
    → records_from default_config (length text) read.1 read.2 ≡ records_left read.1 read.2
after_record text read (inl shorter) =
    sym (enough_more (length text - (length read.2 + 1)) (length text) (length read.2 + 1)
    read.1 read.2 (omega arith) (omega (arith, shorter)))
after_record text read (inr ended) =
    rw (ended.0, ended.1) (nothing_left (length text) ∙ sym (nothing_left 1))

-- the records that are left, by the next one
pub left_by_next : (state : State) (text : List ℕ) (found : Option Read)
    → next_record default_config state [] [] text ≡ found
    → records_left state text ≡ records_next records_left found
unfolding records_from
left_by_next state text None is =
    ap (λ turns. records_from default_config turns state text)
    (let e : length text + 1 ≡ suc (length text) = omega arith in e)
    ∙ ap (λ found. records_next (records_from default_config (length text)) found) is
left_by_next state text (Some read) is =
    ap (λ turns. records_from default_config turns state text)
    (let e : length text + 1 ≡ suc (length text) = omega arith in e)
    ∙ ap (λ found. records_next (records_from default_config (length text)) found) is
    ∙ ap (λ (records : List (List (List ℕ))). read.0 ∷ records)
    (after_record text read (reading_shortens state [] [] text read is))

-- a record that was read, and what is left after it
taken : (before after : State) (text rest : List ℕ) (fields : List (List ℕ)) (found : Option Read)
    → next_record default_config before [] [] text ≡ found → NextIs found true fields after rest
    → records_left before text ≡ fields ∷ records_left after rest
taken before after text rest fields None is next = absurd (cc next)
taken before after text rest fields (Some read) is next =
    rw (next.1, next.2, next.3) (left_by_next before text (Some read) is)

-- none was read
none_taken : (before after : State) (text rest : List ℕ) (fields : List (List ℕ))
    (found : Option Read) → next_record default_config before [] [] text ≡ found
    → NextIs found false fields after rest → records_left before text ≡ []
none_taken before after text rest fields None is next = left_by_next before text None is
none_taken before after text rest fields (Some read) is next = absurd (cc next.0)

-- a reader that has read a record has the records after it left
pub left_after : (before after : State) (source known : Option (List ℕ)) (text : List ℕ)
    (fields : List (List ℕ)) → source ≡ Some text
    → ReadsNext default_config before source known true fields after
    → records_left before text ≡ fields ∷ records_left after (unwrap_or known [])
left_after before after None known text fields is reads = absurd (cc is)
left_after before after (Some bytes) None text fields is reads = absurd reads
left_after before after (Some bytes) (Some rest) text fields is reads =
    let same : bytes ≡ text = cc is in
    taken before after text rest fields (next_record default_config before [] [] text) refl
    (rw same at reads)

-- a reader that has read none has none left
pub left_at_end : (before after : State) (source known : Option (List ℕ)) (text : List ℕ)
    (fields : List (List ℕ)) → source ≡ Some text
    → ReadsNext default_config before source known false fields after
    → records_left before text ≡ []
left_at_end before after None known text fields is reads = absurd (cc is)
left_at_end before after (Some bytes) None text fields is reads = absurd reads
left_at_end before after (Some bytes) (Some rest) text fields is reads =
    let same : bytes ≡ text = cc is in
    none_taken before after text rest fields (next_record default_config before [] [] text) refl
    (rw same at reads)
