-- Texts and their tokens, from left to right.
use Rattle.std.proofs.Common.{List, [], inl, inr, add-zero, ap, arith, drop, false, get_or, length, not, refl, sym, take, true, suc, ℕ, ◌+◌, ◌++◌, ◌<◌, ◌≡◌, ◌≤◌, ◌∙◌, ◌∷◌, Bool, cond}
use Rattle.std.specs.List.{All, filter, position_or_len, prefix_len}
use Rattle.std.proofs.lemmas.List.{drop_all, drop_more, get_or-drop, get_or-take, length-drop, length-take, take_all}
use Rattle.std.proofs.lemmas.List.Elements.{All-from_get_or}
use Rattle.std.proofs.lemmas.Bool.{cases_lt}
use Rattle.std.proofs.lemmas.List.Splits.{slice_split-cons_yes, slice_split_at, slice_split_none}
use Rattle.std.proofs.lemmas.List.Sums.{split_at_first, fails_before_first, passes_at_first, prefix_len_stops, prefix_len-le-length}
use Rattle.mb_text.specs.Tokens.{is_blank, is_filled, tokens}

-- a text that is empty has no token
pub tokens-nil : tokens [] ≡ []
unfolding tokens
tokens-nil = refl

-- a blank in front changes nothing
pub tokens-blank : (b : ℕ) (text : List ℕ) → is_blank b ≡ true → tokens (b ∷ text) ≡ tokens text
unfolding tokens
tokens-blank b text h = ap (filter is_filled) (slice_split-cons_yes is_blank b text h)

-- one byte of the skipped front
skipped : (b : ℕ) (text : List ℕ) (blank : Bool) → is_blank b ≡ blank →
    tokens (drop (prefix_len is_blank text) text) ≡ tokens text →
    tokens (drop (prefix_len is_blank (b ∷ text)) (b ∷ text)) ≡ tokens (b ∷ text)
skipped b text true h others =
    rw h (ap (λ n. tokens (drop n (b ∷ text))) one_more ∙ others ∙ sym (tokens-blank b text h))
  where
    one_more : 1 + prefix_len is_blank text ≡ suc (prefix_len is_blank text)
    one_more = omega arith
skipped b text false h others = rw h refl

-- nor do many
pub tokens-skip : (text : List ℕ) → tokens (drop (prefix_len is_blank text) text) ≡ tokens text
tokens-skip [] = refl
tokens-skip (b ∷ text) = skipped b text (is_blank b) refl (tokens-skip text)

-- what follows the blanks in front is no blank
pub first_after_blanks : (text : List ℕ) →
    0 < length (drop (prefix_len is_blank text) text) →
    is_blank (get_or (drop (prefix_len is_blank text) text) 0 0) ≡ false
first_after_blanks text l =
    rw (get_or-drop (prefix_len is_blank text) text 0 0)
    (rw add-zero
    (prefix_len_stops is_blank text 0
    (omega (arith, length-drop (prefix_len is_blank text) text))))

-- the bytes up to the first blank
token_bytes : (text : List ℕ) →
    All (λ b. is_blank b ≡ false) (take (position_or_len is_blank text) text)
token_bytes text =
    All-from_get_or (λ b. is_blank b ≡ false) (take (position_or_len is_blank text) text) 0
    (λ k l. let below : k < position_or_len is_blank text =
    omega (arith, length-take (position_or_len is_blank text) text) in
    rw (get_or-take (position_or_len is_blank text) text k 0 below)
    (fails_before_first is_blank text k 0 below))

-- a piece with a byte in it is filled
filled : (piece : List ℕ) → 0 < length piece → is_filled piece ≡ true
filled [] l = absurd (omega arith)
filled (b ∷ piece) l = refl

-- a token, a blank and a rest: the token comes first
pub tokens-at : (token : List ℕ) (blank : ℕ) (rest : List ℕ) →
    0 < length token → All (λ b. is_blank b ≡ false) token → is_blank blank ≡ true →
    tokens (token ++ blank ∷ rest) ≡ token ∷ tokens rest
unfolding tokens
tokens-at token blank rest l plain h =
    ap (filter is_filled) (slice_split_at is_blank token blank rest plain h)
    ∙ ap (λ keep. cond keep (token ∷ tokens rest) (tokens rest)) (filled token l)

-- a token alone
pub tokens-all : (token : List ℕ) → 0 < length token → All (λ b. is_blank b ≡ false) token →
    tokens token ≡ token ∷ []
unfolding tokens
tokens-all token l plain =
    ap (filter is_filled) (slice_split_none is_blank token plain)
    ∙ ap (λ keep. cond keep (token ∷ []) []) (filled token l)

-- a text that begins with no blank begins with some bytes before the first one
some_bytes : (text : List ℕ) → 0 < length text → is_blank (get_or text 0 0) ≡ false →
    0 < position_or_len is_blank text
some_bytes [] l h = absurd (omega arith)
some_bytes (b ∷ text) l h = rw h (omega arith)

-- where a text begins with no blank, its first token reaches up to the first blank
pub tokens-first : (text : List ℕ) → 0 < length text → is_blank (get_or text 0 0) ≡ false →
    tokens text
    ≡ take (position_or_len is_blank text) text ∷ tokens (drop (position_or_len is_blank text) text)
tokens-first text l h =
    let n = position_or_len is_blank text in
    let some : 0 < n = some_bytes text l h in
    let within : n ≤ length text = prefix_len-le-length (λ b. not (is_blank b)) text in
    let size = length-take n text in
    elim (cases_lt n (length text)) [
      | inl more ↦
          let blank = passes_at_first is_blank text 0 more in
          let cut : text ≡ take n text ++ (get_or text n 0 ∷ drop (n + 1) text) =
          split_at_first is_blank text 0 more in
          let one = tokens-at (take n text) (get_or text n 0) (drop (n + 1) text) (omega arith)
          (token_bytes text) blank in
          let rest : tokens (drop n text) ≡ tokens (drop (n + 1) text) =
          ap tokens (drop_more text n 0 more)
          ∙ tokens-blank (get_or text n 0) (drop (n + 1) text) blank in
          ap tokens cut ∙ one ∙ ap (λ others. take n text ∷ others) (sym rest)
      | inr le ↦
          let whole : take n text ≡ text = take_all n text le in
          let nothing : drop n text ≡ [] = drop_all n text le in
          let one = tokens-all (take n text) (omega arith) (token_bytes text) in
          ap tokens (sym whole) ∙ one
          ∙ ap (λ others. take n text ∷ others) (sym tokens-nil ∙ ap tokens (sym nothing))
    ]
