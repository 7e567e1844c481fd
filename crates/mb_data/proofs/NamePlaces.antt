-- Names and the places where they stand.
use Rattle.std.proofs.Common.{List, None, Option, Some, [], ap, false, inl, inr, length, not, refl, rules, suc, sym, true, zero, ℕ, ◌++◌, ◌||◌, ◌∙◌, ◌∷◌, ◌≡◌, ◌⊎◌}
use Rattle.std.specs.HashMap.{HashMap, UpdatesBy, get_by_text}
use Rattle.std.specs.List.{list_any, slice_get}
use Rattle.std.specs.Map.{update}
use Rattle.std.specs.Option.{is_some}
use Rattle.std.specs.Str.{bytes_eq}
use Rattle.std.specs.String.{string_bytes, string_eq}
use Rattle.std.proofs.Common.{String}
use Rattle.std.proofs.lemmas.Bool.{cases_Bool}
use Rattle.std.proofs.lemmas.Map.Text.{hash_map_updates_text}
use Rattle.std.proofs.lemmas.Slice.Eq.{bytes_eq-Decides}
use Rattle.mb_data.specs.Levels.{AreApart}
use Rattle.mb_data.specs.loops.Index.{IsIndex}
use Rattle.mb_tables.proofs.ListLaws.{get-last, get-more}

-- a name that stands at a place is among the names
pub place_any : (names : List (List ℕ)) (place : ℕ) (name : List ℕ)
    → slice_get names place ≡ Some name → list_any (bytes_eq name) names ≡ true
place_any [] place name is = absurd (cc is)
place_any (first ∷ names) zero name is =
    let same : name ≡ first = cc is in
    ap (λ b. b || list_any (bytes_eq name) names) ((bytes_eq-Decides name first).1 same)
place_any (first ∷ names) (suc place) name is =
    ap (λ b. bytes_eq name first || b) (place_any names place name is) ∙ search rules

-- a name among the names stands at some place
pub any_place : (names : List (List ℕ)) (name : List ℕ) → list_any (bytes_eq name) names ≡ true
    → (place : ℕ) × (slice_get names place ≡ Some name)
any_place [] name is = absurd (cc is)
any_place (first ∷ names) name is = elim (cases_Bool (bytes_eq name first)) [
  | inl same ↦ (zero, ap (λ n. Some n) (sym ((bytes_eq-Decides name first).0 same)))
  | inr other ↦ let at = any_place names name (rw other at is) in (suc at.0, at.1)
]

-- a name that isn't found isn't among the names
pub not_found : (names : List (List ℕ)) (find : List ℕ → Option ℕ) (name : List ℕ)
    → IsIndex names find → find name ≡ None → list_any (bytes_eq name) names ≡ false
not_found names find name index none = elim (cases_Bool (list_any (bytes_eq name) names)) [
  | inl is ↦
      let at = any_place names name is in
      let found : find name ≡ Some at.0 = index.found name at.0 at.1 in
      absurd (cc (sym found ∙ none))
  | inr is ↦ is
]

-- a place of a list with a name more
pub place_more : (names : List (List ℕ)) (place : ℕ) (name other : List ℕ)
    → slice_get (names ++ name ∷ []) place ≡ Some other
    → (slice_get names place ≡ Some other) ⊎ ((place ≡ length names) × (name ≡ other))
place_more [] zero name other is = inr (refl, cc is)
place_more [] (suc place) name other is = absurd (cc is)
place_more (first ∷ names) zero name other is = inl is
place_more (first ∷ names) (suc place) name other is =
    elim (place_more names place name other is) [
      | inl before ↦ inl before
      | inr last ↦ inr (ap (λ n. suc n) last.0, last.1)
    ]

-- a further name at the end
pub index_more : (names : List (List ℕ)) (find after : List ℕ → Option ℕ) (name : List ℕ)
    → IsIndex names find → find name ≡ None
    → ((other : List ℕ) → after other ≡ update bytes_eq find name (Some (length names)) other)
    → IsIndex (names ++ name ∷ []) after
index_more names find after name index none is = record {
  there = λ other place e. elim (cases_Bool (bytes_eq name other)) [
    | inl same ↦
        let equal : name ≡ other = (bytes_eq-Decides name other).0 same in
        let last : length names ≡ place = cc (sym (rw same at (is other)) ∙ e) in
        rw (sym last, sym equal) (get-last names name)
    | inr differs ↦
        get-more names (name ∷ []) place other
        (index.there other place (sym (rw differs at (is other)) ∙ e))
  ];
  found = λ other place e. elim (place_more names place name other e) [
    | inl before ↦ elim (cases_Bool (bytes_eq name other)) [
      | inl same ↦
          let equal : name ≡ other = (bytes_eq-Decides name other).0 same in
          let found : find name ≡ Some place =
          index.found name place (before ∙ ap (λ n. Some n) (sym equal)) in
          absurd (cc (sym found ∙ none))
      | inr differs ↦ rw differs at (is other) ∙ index.found other place before
    ]
    | inr last ↦
        let same : bytes_eq name other ≡ true = (bytes_eq-Decides name other).1 last.1 in
        rw same at (is other) ∙ ap (λ n. Some n) (sym last.0)
  ];
}

-- no name has two places
pub index_apart : (names : List (List ℕ)) (find : List ℕ → Option ℕ) → IsIndex names find
    → AreApart names
index_apart names find index i j name at_i at_j =
    cc (sym (index.found name i at_i) ∙ index.found name j at_j)

-- a name that isn't there isn't found
pub unfound : (names : List (List ℕ)) (find : List ℕ → Option ℕ) (name : List ℕ)
    → IsIndex names find → list_any (bytes_eq name) names ≡ false → find name ≡ None
unfound names find name index none = go (find name) refl
  where
    go : (place : Option ℕ) → find name ≡ place → find name ≡ None
    go None is = is
    go (Some k) is =
        absurd (cc (sym (place_any names k name (index.there name k is)) ∙ none))

-- a map of names to places, after a further name was put into it
pub index_put : {Z S : Type 0} (names : List (List ℕ)) (before after : HashMap (String Z) ℕ S)
    (key : String Z) (place : ℕ) → IsIndex names (get_by_text before)
    → list_any (bytes_eq (string_bytes key)) names ≡ false → place ≡ length names
    → UpdatesBy string_eq (string_eq key) before after (Some place)
    → IsIndex (names ++ string_bytes key ∷ []) (get_by_text after)
index_put names before after key place index new last updates =
    index_more names (get_by_text before) (get_by_text after) (string_bytes key) index
    (unfound names (get_by_text before) (string_bytes key) index new)
    (hash_map_updates_text (string_bytes key) before after (Some (length names))
    (rw last at updates))

-- a name that isn't found is new, and one that is found isn't
pub found_or_new : (names : List (List ℕ)) (find : List ℕ → Option ℕ) (name : List ℕ)
    → IsIndex names find → not (is_some (find name)) ≡ not (list_any (bytes_eq name) names)
found_or_new names find name index = go (find name) refl
  where
    go : (place : Option ℕ) → find name ≡ place
        → not (is_some (find name)) ≡ not (list_any (bytes_eq name) names)
    go None is = rw (is, not_found names find name index is) refl
    go (Some k) is = rw (is, place_any names k name (index.there name k is)) refl
