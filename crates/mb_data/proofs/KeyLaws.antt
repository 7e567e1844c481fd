-- Different lists of texts have different keys.
use Rattle.std.proofs.Common.{Bool, List, [], ap, append-nil, append_assoc, arith, drop, get_or, false, inl, inr, length, refl, suc, sym, true, ℕ, ◌%◌, ◌&&◌, ◌+◌, ◌++◌, ◌/◌, ◌<◌, ◌==◌, ◌||◌, ◌∙◌, ◌∷◌, ◌≡◌, ◌≤◌}
use Rattle.std.specs.Char.{encode_utf8}
use Rattle.std.proofs.Math.Dec.{ltb}
use Rattle.std.proofs.Math.Utf8.{scalar, scalar_cases}
use Rattle.std.proofs.Math.Seq.{drop-cons}
use Rattle.std.proofs.lemmas.List.{drop_all}
use Rattle.std.proofs.lemmas.List.Folds.{list_any-append}
use Rattle.std.specs.List.{list_all, list_any}
use Rattle.std.specs.Str.{encode_utf8_all, all_scalars, is_utf8}
use Rattle.std.proofs.lemmas.Bool.{cases_Bool, ltb-true, ne_eqb}
use Rattle.std.proofs.lemmas.Str.{IsUtf8-from_is_utf8}
use Rattle.mb_data.specs.loops.Keys.{key_of}

-- parts of a test that passes, and of one that fails
pub and_left : (a b : Bool) → (a && b) ≡ true → a ≡ true
and_left true b is = refl
and_left false b is = is

pub and_right : (a b : Bool) → (a && b) ≡ true → b ≡ true
and_right true b is = is
and_right false b is = absurd (cc is)

pub or_left : (a b : Bool) → (a || b) ≡ false → a ≡ false
or_left true b is = is
or_left false b is = refl

pub or_right : (a b : Bool) → (a || b) ≡ false → b ≡ false
or_right true b is = absurd (cc is)
or_right false b is = is

-- whether a byte is the one that ends names
abbrev pub is_end : ℕ → Bool
is_end b = b == 255

-- a smaller number isn't that byte
not_end : (b : ℕ) → b < 255 → (b == 255) ≡ false
not_end b less = ne_eqb b 255 (λ is. absurd (omega (arith, less, is)))

-- the bytes of a character are below 255
character_bytes : (c : ℕ) → c < 1114112 → list_any is_end (encode_utf8 c) ≡ false
unfolding encode_utf8
character_bytes c below = elim (cases_Bool (ltb c 128)) [
  | inl one ↦ rw (one, not_end c (omega (arith, ltb-true c 128 one))) refl
  | inr more ↦ rw more (elim (cases_Bool (ltb c 2048)) [
    | inl two ↦
        let small = ltb-true c 2048 two in
        rw (
          two,
          not_end (192 + c / 64) (omega (arith, small)),
          not_end (128 + c % 64) (omega arith),
        ) refl
    | inr further ↦ rw further (elim (cases_Bool (ltb c 65536)) [
      | inl three ↦
          let small = ltb-true c 65536 three in
          rw (
            three,
            not_end (224 + c / 4096) (omega (arith, small)),
            not_end (128 + c / 64 % 64) (omega arith),
            not_end (128 + c % 64) (omega arith),
          ) refl
      | inr four ↦
          rw (
            four,
            not_end (240 + c / 262144) (omega (arith, below)),
            not_end (128 + c / 4096 % 64) (omega arith),
            not_end (128 + c / 64 % 64) (omega arith),
            not_end (128 + c % 64) (omega arith),
          ) refl
    ])
  ])
]

-- a character's code is below 0x110000
below_top : (c : ℕ) → scalar c ≡ true → c < 1114112
below_top c is = elim (scalar_cases c is) [
  | inl low ↦ omega (arith, low)
  | inr high ↦ high.1
]

-- no text has the byte
characters_bytes : (cs : List ℕ) → all_scalars cs ≡ true
    → list_any is_end (encode_utf8_all cs) ≡ false
characters_bytes [] are = refl
characters_bytes (c ∷ cs) are =
    let is : scalar c ≡ true = and_left (scalar c) (all_scalars cs) are in
    let others : all_scalars cs ≡ true = and_right (scalar c) (all_scalars cs) are in
    list_any-append is_end (encode_utf8 c) (encode_utf8_all cs)
    ∙ rw (character_bytes c (below_top c is), characters_bytes cs others) refl

pub text_has_no_end : (text : List ℕ) → is_utf8 text ≡ true → list_any is_end text ≡ false
text_has_no_end text is =
    let spelled = IsUtf8-from_is_utf8 text is in
    ap (list_any is_end) (sym spelled.1.1) ∙ characters_bytes spelled.0 spelled.1.0

-- two names with the same rest are cut at the same place
cut_alike : (a b s t : List ℕ) → list_any is_end a ≡ false → list_any is_end b ≡ false
    → a ++ 255 ∷ s ≡ b ++ 255 ∷ t → (a ≡ b) × (s ≡ t)
cut_alike [] [] s t no_a no_b same = (refl, cc same)
cut_alike [] (y ∷ b) s t no_a no_b same =
    let is : 255 ≡ y = cc same in absurd (cc (sym (or_left (y == 255) (list_any is_end b) no_b)
    ∙ ap (λ n. n == 255) (sym is)))
cut_alike (x ∷ a) [] s t no_a no_b same =
    let is : x ≡ 255 = cc same in
    absurd (cc (sym (or_left (x == 255) (list_any is_end a) no_a) ∙ ap (λ n. n == 255) is))
cut_alike (x ∷ a) (y ∷ b) s t no_a no_b same =
    let first : x ≡ y = cc same in
    let rest = cut_alike a b s t (or_right (x == 255) (list_any is_end a) no_a)
    (or_right (y == 255) (list_any is_end b) no_b) (cc same) in
    (rw (first, rest.0) refl, rest.1)

-- a key with a name isn't empty
not_nothing : (name rest : List ℕ) → [] ≡ name ++ 255 ∷ rest → ⊥
not_nothing [] rest same = absurd (cc same)
not_nothing (b ∷ name) rest same = absurd (cc same)

-- keys of different lists of texts differ
pub key_names : (some others : List (List ℕ)) → list_all is_utf8 some ≡ true
    → list_all is_utf8 others ≡ true → key_of some ≡ key_of others → some ≡ others
unfolding key_of
key_names [] [] texts_a texts_b same = refl
key_names [] (name ∷ others) texts_a texts_b same = absurd (not_nothing name (key_of others) same)
key_names (name ∷ some) [] texts_a texts_b same =
    absurd (not_nothing name (key_of some) (sym same))
key_names (name ∷ some) (other ∷ others) texts_a texts_b same =
    let cut = cut_alike name other (key_of some) (key_of others)
    (text_has_no_end name (and_left (is_utf8 name) (list_all is_utf8 some) texts_a))
    (text_has_no_end other (and_left (is_utf8 other) (list_all is_utf8 others) texts_b)) same in
    let rest = key_names some others (and_right (is_utf8 name) (list_all is_utf8 some) texts_a)
    (and_right (is_utf8 other) (list_all is_utf8 others) texts_b) cut.1 in
    rw (cut.0, rest) refl

-- the key of the names from a place on
pub key_at : (names : List (List ℕ)) (k : ℕ) (front : List ℕ) (name : List ℕ) → k < length names
    → get_or names k [] ≡ name → front ++ key_of (drop k names) ≡ key_of names
    → (front ++ (name ++ 255 ∷ [])) ++ key_of (drop (k + 1) names) ≡ key_of names
unfolding key_of
key_at names k front name within is so_far =
    let more : k + 1 ≡ suc k = omega arith in
    append_assoc front (name ++ 255 ∷ []) (key_of (drop (k + 1) names))
    ∙ ap (λ rest. front ++ rest) (append_assoc name (255 ∷ []) (key_of (drop (k + 1) names)))
    ∙ ap (λ (n : List ℕ). front ++ (n ++ 255 ∷ key_of (drop (k + 1) names))) (sym is)
    ∙ ap (λ n. front ++ (get_or names k [] ++ 255 ∷ key_of (drop n names))) more
    ∙ ap (λ rest. front ++ key_of rest) (sym (drop-cons names k [] within))
    ∙ so_far

-- the key of all names
pub key_whole : (names : List (List ℕ)) (k : ℕ) (front : List ℕ) → length names ≤ k
    → front ++ key_of (drop k names) ≡ key_of names → front ≡ key_of names
unfolding key_of
key_whole names k front past so_far =
    sym (append-nil front) ∙ ap (λ rest. front ++ key_of rest)
    (sym (drop_all k names past)) ∙ so_far
