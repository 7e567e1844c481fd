-- The levels that rows give are texts, and no two of a factor have one name.
use Rattle.std.proofs.Common.{Bool, List, Option, Some, [], ap, arith, false, get_or, inl, inr, length, refl, replicate, suc, sym, true, zero, ℕ, ◌&&◌, ◌++◌, ◌<◌, ◌∙◌, ◌∷◌, ◌≡◌, ◌≤◌, ◌⊎◌}
use Rattle.std.proofs.lemmas.Bool.{cases_Bool, ltb-false, ltb-true}
use Rattle.std.proofs.Math.Dec.{ltb}
use Rattle.std.proofs.lemmas.List.Folds.{list_all-append}
use Rattle.std.proofs.lemmas.List.FromFn.{get_or-map-range_with_len, length-map-range_with_len}
use Rattle.std.proofs.lemmas.Str.{is_utf8-from_IsUtf8}
use Rattle.std.specs.List.{list_all, list_any, slice_get}
use Rattle.std.specs.Str.{bytes_eq, is_utf8}
use Rattle.mb_data.specs.CrossTable.{named}
use Rattle.mb_data.specs.DatasetText.{Row, levels_after, with_levels}
use Rattle.mb_data.specs.Levels.{AreApart, with_name}
use Rattle.mb_data.specs.declared.entry.Entry.{Entry}
use Rattle.mb_data.specs.loops.Gathers.{Gathers}
use Rattle.mb_data.proofs.KeyLaws.{and_left, and_right}
use Rattle.mb_data.proofs.NamePlaces.{place_any, place_more}

-- names that differ, all of them texts
abbrev pub AreSound : List (List ℕ) → Type 0
AreSound names = AreApart names × (list_all is_utf8 names ≡ true)

-- nothing is a text
no_text : is_utf8 [] ≡ true
no_text = is_utf8-from_IsUtf8 [] ([], (refl, refl))

-- an element is a text, where all are
pub each_text : (names : List (List ℕ)) (k : ℕ) → list_all is_utf8 names ≡ true
    → is_utf8 (get_or names k []) ≡ true
each_text [] zero all = no_text
each_text [] (suc k) all = no_text
each_text (name ∷ names) zero all = and_left (is_utf8 name) (list_all is_utf8 names) all
each_text (name ∷ names) (suc k) all =
    each_text names k (and_right (is_utf8 name) (list_all is_utf8 names) all)

-- names that differ, with a new one
apart_more : (names : List (List ℕ)) (name : List ℕ) → AreApart names
    → list_any (bytes_eq name) names ≡ false → AreApart (names ++ name ∷ [])
apart_more names name apart new i j other at_i at_j = elim (place_more names i name other at_i) [
  | inl before_i ↦ elim (place_more names j name other at_j) [
    | inl before_j ↦ apart i j other before_i before_j
    | inr last_j ↦
        absurd (cc (sym (place_any names i name
        (before_i ∙ ap (λ (n : List ℕ). Some n) (sym last_j.1))) ∙ new))
  ]
  | inr last_i ↦ elim (place_more names j name other at_j) [
    | inl before_j ↦
        absurd (cc (sym (place_any names j name
        (before_j ∙ ap (λ (n : List ℕ). Some n) (sym last_i.1))) ∙ new))
    | inr last_j ↦ last_i.0 ∙ sym last_j.0
  ]
]

-- sound names after a further one
sound_more : (names : List (List ℕ)) (name : List ℕ) → AreSound names → is_utf8 name ≡ true
    → AreSound (with_name names name)
sound_more names name sound text = elim (cases_Bool (list_any (bytes_eq name) names)) [
  | inl there ↦ rw there sound
  | inr new ↦
      let all : list_all is_utf8 (names ++ name ∷ []) ≡ true =
      list_all-append is_utf8 names (name ∷ [])
      ∙ ap (λ b. b && list_all is_utf8 (name ∷ [])) sound.1
      ∙ ap (λ b. b && true) text in
      rw new (apart_more names name sound.0 new, all)
]

-- nothing stands past the end
past_end : (levels : List (List (List ℕ))) (k : ℕ) → length levels ≤ k → get_or levels k [] ≡ []
past_end [] k past = refl
past_end (names ∷ levels) zero past = absurd (omega (arith, past))
past_end (names ∷ levels) (suc k) past = past_end levels k (omega (arith, past))

-- no name
sound_none : AreSound []
sound_none = ((λ i j name at_i at_j. absurd (cc at_i)), refl)

-- sound levels after a further row
row_sound : (levels : List (List (List ℕ))) (row : List (List ℕ))
    → ((k : ℕ) → AreSound (get_or levels k [])) → list_all is_utf8 row ≡ true
    → (k : ℕ) → AreSound (get_or (with_levels levels row) k [])
row_sound levels row sound texts k = elim (which (ltb k (length levels)) refl) [
  | inl within ↦
      rw (get_or-map-range_with_len
      (λ j. with_name (get_or levels j []) (get_or row j [])) 0 (length levels) k k [] within
      (omega arith))
      (sound_more (get_or levels k []) (get_or row k []) (sound k) (each_text row k texts))
  | inr past ↦
      rw (past_end (with_levels levels row) k (let long = length-map-range_with_len
      (λ j. with_name (get_or levels j []) (get_or row j [])) 0 (length levels) in
      omega (arith, long, past))) sound_none
]
  where
    which : (b : Bool) → ltb k (length levels) ≡ b → (k < length levels) ⊎ (length levels ≤ k)
    which true is = inl (ltb-true k (length levels) is)
    which false is = inr (ltb-false k (length levels) is)

-- sound levels after rows of texts
rows_sound : (levels : List (List (List ℕ))) (rows : List Row)
    → ((k : ℕ) → AreSound (get_or levels k []))
    → ((k : ℕ) (row : Row) → slice_get rows k ≡ Some row → list_all is_utf8 row.levels ≡ true)
    → (k : ℕ) → AreSound (get_or (levels_after levels rows) k [])
unfolding levels_after
rows_sound levels [] sound texts k = sound k
rows_sound levels (row ∷ rows) sound texts k =
    rows_sound (with_levels levels row.levels) rows
    (row_sound levels row.levels sound (texts 0 row refl)) (λ j other at. texts (suc j) other at) k

-- a list of so many factors without names
abbrev pub no_names : ℕ → List (List (List ℕ))
no_names factors = replicate factors []

-- no factor has a name at first
pub none_at : (factors k : ℕ) → get_or (no_names factors) k [] ≡ []
none_at zero k = refl
none_at (suc factors) zero = refl
none_at (suc factors) (suc k) = none_at factors k

-- the levels that were gathered are sound
pub gathered_sound : (factors : ℕ) (rows : List Row) (levels : List (List (List ℕ)))
    (kept : List ℕ → Option Entry) (total : ℕ) → Gathers factors rows levels kept total
    → (k : ℕ) → AreSound (get_or levels k [])
gathered_sound factors rows levels kept total is k =
    rw is.levels_are (rows_sound (replicate factors []) rows
    (λ j. rw (none_at factors j) sound_none) is.texts k)

-- the names of sound levels are texts
pub named_texts : (levels : List (List (List ℕ))) (places : List ℕ)
    → ((k : ℕ) → AreSound (get_or levels k [])) → list_all is_utf8 (named levels places) ≡ true
unfolding named
named_texts [] places sound = refl
named_texts (names ∷ levels) [] sound = refl
named_texts (names ∷ levels) (place ∷ places) sound =
    rw (each_text names place (sound 0).1) (named_texts levels places (λ k. sound (suc k)))
