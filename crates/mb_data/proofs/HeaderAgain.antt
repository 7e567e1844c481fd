-- The factors of a header that is accepted, and then `count`, are such a header.
use Rattle.std.proofs.Common.{Bool, List, None, Ok, Option, Some, [], ap, append-nil, append_assoc, arith, cond, drop, false, get_or, inl, inr, length, nat_lt, refl, suc, sym, take, true, zero, ℕ, ◌&&◌, ◌+◌, ◌++◌, ◌==◌, ◌||◌, ◌∙◌, ◌∷◌, ◌≡◌, ◌≢◌, ◌≤◌}
use Rattle.std.proofs.Math.Seq.{drop-append-add, drop-cons, take-append_seam}
use Rattle.std.proofs.lemmas.Bool.{cases_Bool, lt-ltb, ne_eqb, or_from}
use Rattle.std.proofs.lemmas.List.{length-append, take-append-drop}
use Rattle.std.proofs.lemmas.List.Folds.{list_all-append, list_any-append}
use Rattle.std.proofs.lemmas.List.Quantifiers.{position-Some}
use Rattle.std.proofs.lemmas.Slice.Eq.{bytes_eq-Decides}
use Rattle.std.specs.List.{list_all, list_any, position, position_or_len, remove}
use Rattle.std.specs.Str.{bytes_eq}
use Rattle.mb_data.specs.HeaderText.{Columns, columns_at, columns_of, count_word, has_repeat, header_of, is_header_field}
use Rattle.mb_data.specs.loops.Headers.{IsHeader}
use Rattle.mb_data.proofs.KeyLaws.{and_left, and_right, or_left, or_right}

-- whether a name is that of the counts
abbrev is_count : List ℕ → Bool
is_count name = bytes_eq name count_word

-- an accepted header has fields that are texts
pub texts_passed : (fields : List (List ℕ)) (columns : Columns) → header_of fields ≡ Ok columns
    → (list_all is_header_field fields ≡ true) × (columns_of fields ≡ Ok columns)
texts_passed fields columns is = elim (cases_Bool (list_all is_header_field fields)) [
  | inl all ↦ (all, rw all at is)
  | inr other ↦ absurd (cc (rw other at is))
]

-- and no repeat
apart_passed : (fields : List (List ℕ)) (columns : Columns) → columns_of fields ≡ Ok columns
    → (has_repeat [] fields ≡ false) × (columns_at fields (position is_count fields) ≡ Ok columns)
apart_passed fields columns is = elim (cases_Bool (has_repeat [] fields)) [
  | inl repeat ↦ absurd (cc (rw repeat at is))
  | inr none ↦ (none, rw none at is)
]

-- and a column of counts, which isn't alone
place_passed : (fields : List (List ℕ)) (columns : Columns) (found : Option ℕ)
    → columns_at fields found ≡ Ok columns
    → (place : ℕ) × (found ≡ Some place) × (length fields ≢ 1)
    × (columns.factors ≡ remove fields place)
place_passed fields columns None is = absurd (cc is)
place_passed fields columns (Some place) is = elim (cases_Bool (length fields == 1)) [
  | inl alone ↦ absurd (cc (rw alone at is))
  | inr more ↦
      let said : Columns = record { factors = remove fields place; place = place } in
      let same : said ≡ columns = cc (rw more at is) in (
        place,
        refl,
        (λ one. absurd (cc (sym more ∙ ap (λ n. n == 1) one))),
        ap (λ (c : Columns). c.factors) (sym same),
      )
]

-- a search for a repeat goes on after some names
repeat_parts : (earlier front back : List (List ℕ))
    → has_repeat earlier (front ++ back)
    ≡ (has_repeat earlier front || has_repeat (earlier ++ front) back)
unfolding has_repeat
repeat_parts earlier [] back = ap (λ list. has_repeat list back) (sym (append-nil earlier))
repeat_parts earlier (name ∷ front) back =
    ap (λ b. list_any (bytes_eq name) earlier || b)
    (repeat_parts (earlier ++ name ∷ []) front back
    ∙ ap (λ list. has_repeat (earlier ++ name ∷ []) front || has_repeat list back)
    (append_assoc earlier (name ∷ []) front))
    ∙ or_assoc (list_any (bytes_eq name) earlier) (has_repeat (earlier ++ name ∷ []) front)
    (has_repeat (earlier ++ name ∷ front) back)
  where
    or_assoc : (a b c : Bool) → (a || (b || c)) ≡ ((a || b) || c)
    or_assoc true b c = refl
    or_assoc false b c = refl

-- two names are equal both ways or none
other_way : (a b : List ℕ) → bytes_eq a b ≡ false → bytes_eq b a ≡ false
other_way a b not = elim (cases_Bool (bytes_eq b a)) [
  | inl same ↦
      absurd (cc (sym not ∙ (bytes_eq-Decides a b).1 (sym ((bytes_eq-Decides b a).0 same))))
  | inr other ↦ other
]

-- with fewer earlier names there is no repeat either, and a name that was earlier isn't there
fewer_earlier : (some more : List (List ℕ)) (name : List ℕ) (names : List (List ℕ))
    → ((z : List ℕ) → list_any (bytes_eq z) more ≡ false
    → (list_any (bytes_eq z) some ≡ false) × (bytes_eq z name ≡ false))
    → has_repeat more names ≡ false
    → (has_repeat some names ≡ false) × (list_any (bytes_eq name) names ≡ false)
unfolding has_repeat
fewer_earlier some more name [] less none = (refl, refl)
fewer_earlier some more name (first ∷ names) less none =
    let new = or_left (list_any (bytes_eq first) more)
    (has_repeat (more ++ first ∷ []) names) none in
    let here = less first new in
    let rest = fewer_earlier (some ++ first ∷ []) (more ++ first ∷ []) name names
    (λ z apart.
    let parts = sym (list_any-append (bytes_eq z) more (first ∷ [])) ∙ apart in
    let before = less z (or_left (list_any (bytes_eq z) more)
    (list_any (bytes_eq z) (first ∷ [])) parts) in (
      list_any-append (bytes_eq z) some (first ∷ [])
          ∙ or_from (list_any (bytes_eq z) some) (list_any (bytes_eq z) (first ∷ [])) before.0
          (or_right (list_any (bytes_eq z) more) (list_any (bytes_eq z) (first ∷ [])) parts),
      before.1,
    ))
    (or_right (list_any (bytes_eq first) more) (has_repeat (more ++ first ∷ []) names) none) in (
      or_from (list_any (bytes_eq first) some)
          (has_repeat (some ++ first ∷ []) names) here.0 rest.0,
      or_from (bytes_eq name first) (list_any (bytes_eq name) names)
          (other_way first name here.1) rest.1,
    )

-- names that differ still differ when one of them is moved to the end
moved_apart : (front back : List (List ℕ)) (name : List ℕ)
    → has_repeat [] (front ++ name ∷ back) ≡ false
    → (has_repeat [] ((front ++ back) ++ name ∷ []) ≡ false)
    × (list_any (bytes_eq name) (front ++ back) ≡ false)
unfolding has_repeat
moved_apart front back name none =
    let parts = sym (repeat_parts [] front (name ∷ back)) ∙ none in
    let before = or_left (has_repeat [] front) (has_repeat front (name ∷ back)) parts in
    let after = or_right (has_repeat [] front) (has_repeat front (name ∷ back)) parts in
    let new = or_left (list_any (bytes_eq name) front)
    (has_repeat (front ++ name ∷ []) back) after in
    let rest = fewer_earlier front (front ++ name ∷ []) name back
    (λ z apart.
    let two = sym (list_any-append (bytes_eq z) front (name ∷ [])) ∙ apart in (
      or_left (list_any (bytes_eq z) front) (list_any (bytes_eq z) (name ∷ [])) two,
      or_left (bytes_eq z name) false
          (or_right (list_any (bytes_eq z) front) (list_any (bytes_eq z) (name ∷ [])) two),
    ))
    (or_right (list_any (bytes_eq name) front) (has_repeat (front ++ name ∷ []) back) after) in
    let missing = list_any-append (bytes_eq name) front back
    ∙ or_from (list_any (bytes_eq name) front) (list_any (bytes_eq name) back) new rest.1 in (
      repeat_parts [] (front ++ back) (name ∷ [])
          ∙ or_from (has_repeat [] (front ++ back)) (has_repeat (front ++ back) (name ∷ []))
          (repeat_parts [] front back ∙ or_from (has_repeat [] front)
          (has_repeat front back) before rest.0)
          (or_from (list_any (bytes_eq name) (front ++ back)) false missing refl),
      missing,
    )

-- the counts stand last, where they stand nowhere before
count_last : (names : List (List ℕ)) → list_any (bytes_eq count_word) names ≡ false
    → position_or_len is_count (names ++ count_word ∷ []) ≡ length names
count_last [] none = refl
count_last (name ∷ names) none =
    let other = other_way count_word name
    (or_left (bytes_eq count_word name) (list_any (bytes_eq count_word) names) none) in
    rw other
    (ap (λ n. 1 + n) (count_last names
    (or_right (bytes_eq count_word name) (list_any (bytes_eq count_word) names) none))
    ∙ let e : 1 + length names ≡ suc (length names) = omega arith in e)

-- names and then the counts, where all differ, are a header
header_whole : (names : List (List ℕ)) → list_all is_header_field (names ++ count_word ∷ []) ≡ true
    → has_repeat [] (names ++ count_word ∷ []) ≡ false
    → list_any (bytes_eq count_word) names ≡ false → 1 ≤ length names
    → header_of (names ++ count_word ∷ []) ≡ Ok (record { factors = names; place = length names })
header_whole names texts apart none some =
    let fields = names ++ count_word ∷ [] in
    let long : length fields ≡ length names + 1 = length-append names (count_word ∷ []) in
    let within : nat_lt (length names) (length fields) ≡ true =
    lt-ltb (length names) (length fields) (omega (arith, long)) in
    let found : position is_count fields ≡ Some (length names) =
    ap (λ n. cond (nat_lt n (length fields)) (Some n) None) (count_last names none)
    ∙ rw within refl in
    let more : (length fields == 1) ≡ false = ne_eqb (length fields) 1
    (λ one. absurd (omega (arith, one, long, some))) in
    let rest : drop (suc (length names)) fields ≡ [] =
    ap (λ n. drop n fields) (let e : suc (length names) ≡ length names + 1 = omega arith in e)
    ∙ drop-append-add names (count_word ∷ []) 1 in
    let left : remove fields (length names) ≡ names =
    ap (λ list. list ++ drop (suc (length names)) fields) (take-append_seam names (count_word ∷ []))
    ∙ ap (λ list. names ++ list) rest ∙ append-nil names in
    rw (texts, apart, found, more, left) refl

-- the texts of a header, with the counts moved to the end
moved_texts : (front back : List (List ℕ)) (name : List ℕ)
    → list_all is_header_field (front ++ name ∷ back) ≡ true
    → list_all is_header_field ((front ++ back) ++ name ∷ []) ≡ true
moved_texts front back name all =
    let test = list_all is_header_field in
    let parts = sym (list_all-append is_header_field front (name ∷ back)) ∙ all in
    let one = and_left (test front) (test (name ∷ back)) parts in
    let two = and_right (test front) (test (name ∷ back)) parts in
    let here = and_left (is_header_field name) (test back) two in
    let after = and_right (is_header_field name) (test back) two in
    list_all-append is_header_field (front ++ back) (name ∷ [])
    ∙ ap (λ b. b && test (name ∷ []))
    (list_all-append is_header_field front back ∙ ap (λ b. b && test back) one ∙ after)
    ∙ ap (λ b. b && true) here

-- the factors of an accepted header
pub header_again : (fields : List (List ℕ)) (columns : Columns) → header_of fields ≡ Ok columns
    → IsHeader columns.factors
header_again fields columns is =
    let texts = texts_passed fields columns is in
    let apart = apart_passed fields columns texts.1 in
    let at = place_passed fields columns (position is_count fields) apart.1 in
    let place = at.0 in
    let found = position-Some is_count fields place [] at.1 in
    let front = take place fields in
    let back = drop (suc place) fields in
    let count : get_or fields place [] ≡ count_word =
    (bytes_eq-Decides (get_or fields place []) count_word).0 found.1 in
    let whole : fields ≡ front ++ count_word ∷ back =
    sym (take-append-drop place fields)
    ∙ ap (λ list. front ++ list) (drop-cons fields place [] found.0)
    ∙ ap (λ (name : List ℕ). front ++ name ∷ back) count in
    let moved = moved_apart front back count_word (sym (ap (has_repeat []) whole) ∙ apart.0) in
    let all = moved_texts front back count_word
    (sym (ap (list_all is_header_field) whole) ∙ texts.0) in
    let long : length fields ≡ length front + length (count_word ∷ back) =
    ap (λ (list : List (List ℕ)). length list) whole ∙ length-append front (count_word ∷ back) in
    let short : length (front ++ back) ≡ length front + length back = length-append front back in
    let some : 1 ≤ length (front ++ back) = many (length fields) (length back) (length front)
    (length (front ++ back)) long short at.2 in
    rw at.3 (record {
      some = some;
      header = header_whole (front ++ back) all moved.0 moved.1 some;
    })
  where
    many : (n b f m : ℕ) → n ≡ f + suc b → m ≡ f + b → n ≢ 1 → 1 ≤ m
    many n zero zero m long short other = absurd (other (omega (arith, long)))
    many n (suc b) f m long short other = omega (arith, short)
    many n zero (suc f) m long short other = omega (arith, short)
