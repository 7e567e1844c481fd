-- Records as the default writer writes them, field by field.
use Rattle.std.proofs.Common.{Bool, List, [], false, true, ap, append-nil, append_assoc, arith, drop, get_or, if◌then◌else◌, length, map, refl, suc, sym, ℕ, ◌+◌, ◌++◌, ◌<◌, ◌==◌, ◌||◌, ◌∙◌, ◌∷◌, ◌≡◌, ◌≤◌}
use Rattle.std.proofs.Math.Seq.{drop-cons}
use Rattle.std.proofs.lemmas.List.{drop_all}
use Rattle.std.proofs.lemmas.List.FromFn.{map-range_with_len_more}
use Rattle.std.proofs.lemmas.Grind.{flat_map-append}
use Rattle.std.specs.List.{flat_map, list_any, range_with_len}
use Rattle.csv.specs.Writing.{default_writer, escaped, field_text, fields_text, is_blank, row_body, row_text}
use Rattle.mb_data.specs.loops.Commas.{with_commas}

-- the fields after the first, and the last
after_first : (fields : List (List ℕ)) (last : List ℕ)
    → fields_text default_writer (fields ++ last ∷ [])
    ≡ 44 ∷ (with_commas fields ++ field_text default_writer last)
unfolding fields_text with_commas
after_first [] last = ap (λ list. 44 ∷ list) (append-nil (field_text default_writer last))
after_first (field ∷ fields) last =
    ap (λ rest. 44 ∷ (field_text default_writer field ++ rest)) (after_first fields last)
    ∙ ap (λ list. 44 ∷ list)
    (sym (append_assoc (field_text default_writer field) (44 ∷ with_commas fields)
    (field_text default_writer last)))

-- a record of two fields or more shows something
shows : (field : List ℕ) (fields : List (List ℕ)) (last : List ℕ)
    → row_text default_writer (field ∷ (fields ++ last ∷ []))
    ≡ row_body default_writer (field ∷ (fields ++ last ∷ [])) ++ 10 ∷ []
unfolding is_blank
shows field [] last = refl
shows field (next ∷ fields) last = refl

-- a record of some fields and a last one
pub row_whole : (fields : List (List ℕ)) (last : List ℕ) → 1 ≤ length fields
    → row_text default_writer (fields ++ last ∷ [])
    ≡ with_commas fields ++ (field_text default_writer last ++ 10 ∷ [])
unfolding with_commas
row_whole [] last some = absurd (omega (arith, some))
row_whole (field ∷ fields) last some =
    shows field fields last
    ∙ ap (λ rest. (field_text default_writer field ++ rest) ++ 10 ∷ []) (after_first fields last)
    ∙ ap (λ list. list ++ 10 ∷ [])
    (sym (append_assoc (field_text default_writer field) (44 ∷ with_commas fields)
    (field_text default_writer last)))
    ∙ append_assoc (field_text default_writer field ++ 44 ∷ with_commas fields)
    (field_text default_writer last) (10 ∷ [])

-- a field more with its comma
pub comma_at : (fields : List (List ℕ)) (k : ℕ) (front whole field : List ℕ) → k < length fields
    → get_or fields k [] ≡ field → front ++ with_commas (drop k fields) ≡ whole
    → ((front ++ field_text default_writer field) ++ 44 ∷ []) ++ with_commas (drop (k + 1) fields)
    ≡ whole
unfolding with_commas
comma_at fields k front whole field within is so_far =
    let text = field_text default_writer field in
    let rest = with_commas (drop (k + 1) fields) in
    let next : suc k ≡ k + 1 = omega arith in
    let split : drop k fields ≡ field ∷ drop (k + 1) fields =
    drop-cons fields k [] within ∙ ap (λ (f : List ℕ). f ∷ drop (suc k) fields) is
    ∙ ap (λ n. field ∷ drop n fields) next in
    append_assoc (front ++ text) (44 ∷ []) rest ∙ append_assoc front text (44 ∷ rest)
    ∙ ap (λ list. front ++ with_commas list) (sym split) ∙ so_far

-- no field is left
pub commas_end : (fields : List (List ℕ)) (k : ℕ) (front whole : List ℕ) → length fields ≤ k
    → front ++ with_commas (drop k fields) ≡ whole → front ≡ whole
unfolding with_commas
commas_end fields k front whole past so_far =
    sym (append-nil front) ∙ ap (λ list. front ++ with_commas list) (sym (drop_all k fields past))
    ∙ so_far

-- a record more
pub record_more : (header : List (List ℕ)) (record_at : ℕ → List (List ℕ)) (k : ℕ)
    (text : List ℕ)
    → text ≡ flat_map (row_text default_writer) (header ∷ map record_at (range_with_len 0 k))
    → text ++ row_text default_writer (record_at k)
    ≡ flat_map (row_text default_writer) (header ∷ map record_at (range_with_len 0 (k + 1)))
record_more header record_at k text so_far =
    let row = row_text default_writer in
    ap (λ list. list ++ row (record_at k)) so_far
    ∙ ap (λ list. flat_map row (header ∷ map record_at (range_with_len 0 k)) ++ list)
    (sym (append-nil (row (record_at k))))
    ∙ sym (flat_map-append row (header ∷ map record_at (range_with_len 0 k)) (record_at k ∷ []))
    ∙ ap (λ list. flat_map row (header ∷ list))
    (sym (map-range_with_len_more record_at 0 k k (omega arith)))

-- the end of a record
pub row_end : (fields : List (List ℕ)) (last front : List ℕ) → 1 ≤ length fields
    → ((front ++ with_commas fields) ++ field_text default_writer last) ++ 10 ∷ []
    ≡ front ++ row_text default_writer (fields ++ last ∷ [])
row_end fields last front some =
    append_assoc (front ++ with_commas fields) (field_text default_writer last) (10 ∷ [])
    ∙ append_assoc front (with_commas fields) (field_text default_writer last ++ 10 ∷ [])
    ∙ ap (λ list. front ++ list) (sym (row_whole fields last some))

-- a quote is written twice
pub twice_at : (field : List ℕ) (k : ℕ) (front whole : List ℕ) → k < length field
    → (get_or field k 0 == 34) ≡ true → front ++ escaped default_writer (drop k field) ≡ whole
    → ((front ++ 34 ∷ []) ++ get_or field k 0 ∷ []) ++ escaped default_writer (drop (k + 1) field)
    ≡ whole
unfolding escaped
twice_at field k front whole within is so_far =
    let b = get_or field k 0 in
    let rest = escaped default_writer (drop (k + 1) field) in
    let next : suc k ≡ k + 1 = omega arith in
    let split : drop k field ≡ b ∷ drop (k + 1) field =
    drop-cons field k 0 within ∙ ap (λ n. b ∷ drop n field) next in
    append_assoc (front ++ 34 ∷ []) (b ∷ []) rest ∙ append_assoc front (34 ∷ []) (b ∷ rest)
    ∙ ap (λ list. front ++ list)
    (sym (ap (escaped default_writer) split
    ∙ ap (λ test. if test then 34 ∷ b ∷ rest else b ∷ rest) is))
    ∙ so_far

-- another byte once
pub once_at : (field : List ℕ) (k : ℕ) (front whole : List ℕ) → k < length field
    → (get_or field k 0 == 34) ≡ false → front ++ escaped default_writer (drop k field) ≡ whole
    → (front ++ get_or field k 0 ∷ []) ++ escaped default_writer (drop (k + 1) field) ≡ whole
unfolding escaped
once_at field k front whole within is so_far =
    let b = get_or field k 0 in
    let rest = escaped default_writer (drop (k + 1) field) in
    let next : suc k ≡ k + 1 = omega arith in
    let split : drop k field ≡ b ∷ drop (k + 1) field =
    drop-cons field k 0 within ∙ ap (λ n. b ∷ drop n field) next in
    append_assoc front (b ∷ []) rest
    ∙ ap (λ list. front ++ list)
    (sym (ap (escaped default_writer) split
    ∙ ap (λ test. if test then 34 ∷ b ∷ rest else b ∷ rest) is))
    ∙ so_far

-- the end of a field
pub escaped_end : (field : List ℕ) (k : ℕ) (front whole : List ℕ) → length field ≤ k
    → front ++ escaped default_writer (drop k field) ≡ whole → front ≡ whole
unfolding escaped
escaped_end field k front whole past so_far =
    sym (append-nil front)
    ∙ ap (λ list. front ++ escaped default_writer list) (sym (drop_all k field past)) ∙ so_far

-- a byte that passes a test, or one that doesn't
pub any_here : (test : ℕ → Bool) (field : List ℕ) (k : ℕ) → k < length field
    → test (get_or field k 0) ≡ true → list_any test field ≡ list_any test (drop k field)
    → list_any test field ≡ true
any_here test field k within is so_far =
    so_far ∙ ap (list_any test) (drop-cons field k 0 within)
    ∙ ap (λ b. b || list_any test (drop (suc k) field)) is

pub any_after : (test : ℕ → Bool) (field : List ℕ) (k : ℕ) → k < length field
    → test (get_or field k 0) ≡ false → list_any test field ≡ list_any test (drop k field)
    → list_any test field ≡ list_any test (drop (k + 1) field)
any_after test field k within is so_far =
    so_far ∙ ap (list_any test) (drop-cons field k 0 within)
    ∙ ap (λ b. b || list_any test (drop (suc k) field)) is
    ∙ ap (λ n. list_any test (drop n field)) (let e : suc k ≡ k + 1 = omega arith in e)
