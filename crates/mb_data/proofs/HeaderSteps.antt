-- A header read field by field.
use Rattle.std.proofs.Common.{Bool, Err, List, None, Ok, Some, [], ap, arith, cond, drop, false, get_or, if◌then◌else◌, inl, inr, length, map, nat_lt, not, refl, suc, sym, take, true, ℕ, ◌&&◌, ◌+◌, ◌++◌, ◌<◌, ◌≤◌, ◌∙◌, ◌∷◌, ◌≡◌}
use Rattle.std.specs.List.{drop-map, list_all, list_any, position, position_or_len, remove, slice_get, take-map}
use Rattle.std.specs.Str.{bytes_eq, is_utf8}
use Rattle.std.proofs.Math.Seq.{drop-cons, take-suc}
use Rattle.std.proofs.lemmas.Bool.{cases_Bool}
use Rattle.std.proofs.lemmas.List.{drop_all, length-map, map-append, take_all}
use Rattle.std.proofs.lemmas.List.Folds.{list_all_at, list_all_more}
use Rattle.std.proofs.lemmas.Option.{get_or_from_slice_get, slice_get_within}
use Rattle.mb_data.specs.HeaderText.{has_repeat, header_fields, is_header_field}
use Rattle.mb_data.specs.declared.fault.DataFault.TheVariants.{Csv}
use Rattle.mb_data.specs.Levels.{with_name}

-- a name that is among the earlier ones is a repeat
repeat_found : (earlier : List (List ℕ)) (name : List ℕ) (rest : List (List ℕ))
    → list_any (bytes_eq name) earlier ≡ true → has_repeat earlier (name ∷ rest) ≡ true
unfolding has_repeat
repeat_found earlier name rest is = rw is refl

-- a new name is one of the earlier ones for the rest
no_repeat_yet : (earlier : List (List ℕ)) (name : List ℕ) (rest : List (List ℕ))
    → list_any (bytes_eq name) earlier ≡ false
    → has_repeat earlier (name ∷ rest) ≡ has_repeat (with_name earlier name) rest
unfolding has_repeat
no_repeat_yet earlier name rest is = rw is refl

-- a search for a repeat ends at a name that isn't new
pub repeat_ends : (earlier names : List (List ℕ)) (k : ℕ) (new whole : Bool) → k < length names
    → new ≡ not (list_any (bytes_eq (get_or names k [])) earlier) → new ≡ false
    → whole ≡ has_repeat earlier (drop k names) → true ≡ whole
repeat_ends earlier names k new whole within is old so_far =
    elim (cases_Bool (list_any (bytes_eq (get_or names k [])) earlier)) [
      | inl there ↦
          sym (so_far ∙ ap (has_repeat earlier) (drop-cons names k [] within)
          ∙ repeat_found earlier (get_or names k []) (drop (suc k) names) there)
      | inr none ↦ absurd (cc (sym old ∙ is ∙ ap not none))
    ]

-- it goes on after a new name
pub repeat_goes : (earlier names : List (List ℕ)) (k : ℕ) (new whole : Bool) → k < length names
    → new ≡ not (list_any (bytes_eq (get_or names k [])) earlier) → new ≡ true
    → whole ≡ has_repeat earlier (drop k names)
    → whole ≡ has_repeat (with_name earlier (get_or names k [])) (drop (k + 1) names)
repeat_goes earlier names k new whole within is fresh so_far =
    elim (cases_Bool (list_any (bytes_eq (get_or names k [])) earlier)) [
      | inl there ↦ absurd (cc (sym fresh ∙ is ∙ ap not there))
      | inr none ↦
          so_far ∙ ap (has_repeat earlier) (drop-cons names k [] within)
          ∙ no_repeat_yet earlier (get_or names k []) (drop (suc k) names) none
          ∙ ap (λ n. has_repeat (with_name earlier (get_or names k [])) (drop n names))
          (let e : suc k ≡ k + 1 = omega arith in e)
    ]

-- it has found none when no name is left
pub repeat_none : (earlier names : List (List ℕ)) (k : ℕ) (whole : Bool) → length names ≤ k
    → whole ≡ has_repeat earlier (drop k names) → false ≡ whole
unfolding has_repeat
repeat_none earlier names k whole past so_far =
    sym (so_far ∙ ap (has_repeat earlier) (drop_all k names past))

-- the first place of a part of the elements
position_or_len_map : {X Y : Type 0} (f : X → Y) (p : Y → Bool) (xs : List X)
    → position_or_len p (map f xs) ≡ position_or_len (λ x. p (f x)) xs
position_or_len_map f p [] = refl
position_or_len_map f p (x ∷ xs) = elim (cases_Bool (p (f x))) [
  | inl here ↦ rw here refl
  | inr after ↦ rw after (ap (λ n. 1 + n) (position_or_len_map f p xs))
]

-- a place found by a part of the elements
pub position_map : {X Y : Type 0} (f : X → Y) (p : Y → Bool) (xs : List X)
    → position p (map f xs) ≡ position (λ x. p (f x)) xs
position_map f p xs =
    ap (λ n. cond (nat_lt n (length (map f xs))) (Some n) None) (position_or_len_map f p xs)
    ∙ ap (λ n. cond (nat_lt (position_or_len (λ x. p (f x)) xs) n)
    (Some (position_or_len (λ x. p (f x)) xs)) None) (length-map xs f)

-- the elements without the one at a place
pub remove_map : {X Y : Type 0} (f : X → Y) (xs : List X) (k : ℕ)
    → map f (remove xs k) ≡ remove (map f xs) k
remove_map f xs k =
    map-append f (take k xs) (drop (suc k) xs)
    ∙ ap (λ front. front ++ map f (drop (suc k) xs)) (sym (take-map f k xs))
    ∙ ap (λ rest. take k (map f xs) ++ rest) (sym (drop-map f (suc k) xs))

-- the fields so far with the next one
pub field_more : (fields names : List (List ℕ)) (k : ℕ) (name : List ℕ) → k < length fields
    → slice_get fields k ≡ Some name → is_header_field name ≡ true
    → (names ≡ take k fields) × (list_all is_header_field (take k fields) ≡ true)
    → (names ++ name ∷ [] ≡ take (k + 1) fields)
    × (list_all is_header_field (take (k + 1) fields) ≡ true)
field_more fields names k name within at is so_far =
    let found : get_or fields k [] ≡ name = get_or_from_slice_get fields k name [] at in
    let last : take (k + 1) fields ≡ take k fields ++ name ∷ [] =
    ap (λ n. take n fields) (let e : k + 1 ≡ suc k = omega arith in e)
    ∙ take-suc fields k [] within ∙ ap (λ (f : List ℕ). take k fields ++ f ∷ []) found in (
      ap (λ front. front ++ name ∷ []) so_far.0 ∙ sym last,
      list_all_more is_header_field fields k [] within
          ∙ ap (λ b. b && is_header_field (get_or fields k [])) so_far.1
          ∙ ap is_header_field found ∙ is,
    )

-- a field that is no header field makes the header none
pub field_refused : (fields : List (List ℕ)) (k : ℕ) (name : List ℕ) → k < length fields
    → slice_get fields k ≡ Some name → is_header_field name ≡ false
    → header_fields fields ≡ Err (Csv 1)
field_refused fields k name within at isnt =
    let found : get_or fields k [] ≡ name = get_or_from_slice_get fields k name [] at in
    rw (list_all_at is_header_field fields k [] within (ap is_header_field found ∙ isnt)) refl

-- all fields are header fields
pub fields_accepted : (fields names : List (List ℕ)) (k : ℕ) → length fields ≤ k
    → (names ≡ take k fields) × (list_all is_header_field (take k fields) ≡ true)
    → header_fields fields ≡ Ok names
fields_accepted fields names k past so_far =
    let whole : take k fields ≡ fields = take_all k fields past in
    rw (rw whole at so_far.1) (ap (λ (f : List (List ℕ)). Ok f) (sym (so_far.0 ∙ whole)))

-- a field that was read as a text passed the test
pub passed : {X : Type 0} (test : Bool) (text field : X)
    → Some text ≡ (if test then Some field else None) → (test ≡ true) × (text ≡ field)
passed true text field is = (refl, cc is)
passed false text field is = absurd (cc is)

-- a field that wasn't read as a text didn't
pub failed : {X : Type 0} (test : Bool) (field : X) → None ≡ (if test then Some field else None)
    → test ≡ false
failed true field is = absurd (cc is)
failed false field is = refl

-- a field that is no text makes a record none
pub no_text : (fields : List (List ℕ)) (k : ℕ) (field : List ℕ) → k < length fields
    → slice_get fields k ≡ Some field → is_utf8 field ≡ false → list_all is_utf8 fields ≡ false
no_text fields k field within at isnt =
    list_all_at is_utf8 fields k [] within
    (ap is_utf8 (get_or_from_slice_get fields k field [] at) ∙ isnt)

-- a text more
pub text_more : (fields : List (List ℕ)) (k : ℕ) (field : List ℕ) → k < length fields
    → slice_get fields k ≡ Some field → is_utf8 field ≡ true
    → list_all is_utf8 (take k fields) ≡ true → list_all is_utf8 (take (k + 1) fields) ≡ true
text_more fields k field within at is so_far =
    list_all_more is_utf8 fields k [] within
    ∙ ap (λ b. b && is_utf8 (get_or fields k [])) so_far
    ∙ ap is_utf8 (get_or_from_slice_get fields k field [] at) ∙ is

-- each field of a record of texts is a text
pub text_at : (fields : List (List ℕ)) (k : ℕ) (field : List ℕ) → list_all is_utf8 fields ≡ true
    → slice_get fields k ≡ Some field → is_utf8 field ≡ true
text_at fields k field all at = elim (cases_Bool (is_utf8 field)) [
  | inl text ↦ text
  | inr other ↦
      absurd (cc (sym (no_text fields k field (slice_get_within fields k field at) at other) ∙ all))
]
