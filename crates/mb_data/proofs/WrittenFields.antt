-- The fields of a written record are read as they were.
use Rattle.std.proofs.Common.{Bool, List, Ok, Some, [], ap, append-nil, arith, drop, false, get_or, inl, inr, length, refl, reverse, suc, sym, true, zero, ℕ, ◌&&◌, ◌+◌, ◌++◌, ◌-◌, ◌<◌, ◌==◌, ◌^◌, ◌∙◌, ◌∷◌, ◌≡◌, ◌≤◌, ◌⊎◌}
use Rattle.std.proofs.Math.Dec.{ltb}
use Rattle.std.proofs.Math.Seq.{drop-append-add, get_or-append_seam, take-append_seam}
use Rattle.std.proofs.lemmas.Bool.{cases_Bool, eq-eqb, ltb-false, ltb-true, ne_eqb}
use Rattle.std.proofs.lemmas.List.{ext_get_or, get_or-reverse, get_or_past, length-append, length-reverse}
use Rattle.std.proofs.lemmas.List.Folds.{list_all-append}
use Rattle.std.proofs.lemmas.Slice.Eq.{bytes_eq-Decides}
use Rattle.std.proofs.lemmas.Str.{IsUtf8-from_ascii, is_utf8-from_IsUtf8}
use Rattle.std.specs.Fmt.{decimal}
use Rattle.std.specs.List.{list_all, remove}
use Rattle.std.specs.Option.{option_map}
use Rattle.std.specs.Str.{bytes_eq, is_utf8}
use Rattle.mb_text.proofs.DecimalForms.{decimal_form, digit_range, first_digit, natural_of-decimal}
use Rattle.mb_data.specs.CountField.{after_spaces, before_spaces, entry_at_core, entry_of, trimmed}
use Rattle.mb_data.specs.CrossTable.{counted}
use Rattle.mb_data.specs.DatasetText.{row_of}
use Rattle.mb_data.specs.Written.{entry_text}
use Rattle.mb_data.specs.declared.entry.Entry.{Entry}
use Rattle.mb_data.specs.declared.entry.Entry.TheVariants.{Count, StructuralZero}

-- bytes of which none is a space
abbrev NoSpace : List ℕ → Type 0
NoSpace text = (k : ℕ) → k < length text → 48 ≤ get_or text k 0

-- nothing is dropped at their start
none_before : (text : List ℕ) → NoSpace text → after_spaces text ≡ text
unfolding after_spaces
none_before [] spaceless = refl
none_before (b ∷ text) spaceless =
    let high : 48 ≤ b = spaceless 0 (omega arith) in
    rw (ne_eqb b 32 (λ is. absurd (omega (arith, high, is)))) refl

-- nor of them backwards
back : (text : List ℕ) → NoSpace text → NoSpace (reverse text)
back text spaceless k within =
    let long = length-reverse text in
    let inside : k < length text = omega (arith, within, long) in
    let at : get_or (reverse text) k 0 ≡ get_or text (length text - 1 - k) 0 =
    get_or-reverse text k 0 inside in
    omega (arith, at, spaceless (length text - 1 - k) (omega (arith, inside)))

-- backwards twice
twice : (text : List ℕ) → reverse (reverse text) ≡ text
twice text =
    ext_get_or 0 (reverse (reverse text)) text (length-reverse (reverse text) ∙ length-reverse text)
    (λ k within.
    let one = length-reverse text in
    let two = length-reverse (reverse text) in
    get_or-reverse (reverse text) k 0 (omega (arith, within, two))
    ∙ get_or-reverse text (length (reverse text) - 1 - k) 0 (omega (arith, within, one, two))
    ∙ ap (λ n. get_or text n 0)
    (let e : length text - 1 - (length (reverse text) - 1 - k)
    ≡ k = omega (arith, within, one, two) in e))

-- nor at their end
none_around : (text : List ℕ) → NoSpace text → NoSpace (reverse text) → trimmed text ≡ text
unfolding before_spaces
none_around text spaceless backwards =
    ap (λ t. before_spaces t) (none_before text spaceless)
    ∙ ap reverse (none_before (reverse text) backwards) ∙ twice text

-- the digits of a decimal form are no spaces
digits : (n : ℕ) → n < 10 ^ 64 → NoSpace (decimal n)
digits n small k within =
    (digit_range (get_or (decimal n) k 0) ((decimal_form n small).each k 0 within)).0

-- the entry of its own text
pub entry_again : (entry : Entry) → counted entry < 10 ^ 64
    → entry_of (entry_text entry) ≡ Some entry
unfolding after_spaces before_spaces
entry_again StructuralZero small = refl
entry_again (Count n) small =
    let same : trimmed (decimal n) ≡ decimal n = none_around (decimal n) (digits n small)
    (back (decimal n) (digits n small)) in
    let other : bytes_eq (decimal n) (42 ∷ []) ≡ false =
    elim (cases_Bool (bytes_eq (decimal n) (42 ∷ []))) [
      | inl is ↦
          let star : get_or (decimal n) 0 0 ≡ 42 =
          ap (λ (t : List ℕ). get_or t 0 0) ((bytes_eq-Decides (decimal n) (42 ∷ [])).0 is) in
          absurd (omega (arith, star, first_digit n small))
      | inr differs ↦ differs
    ] in
    ap entry_at_core same ∙ rw other (ap (option_map (λ (c : ℕ). count c))
    (natural_of-decimal n small))
  where
    count : ℕ → Entry
    count c = Count c

-- the digits are ASCII
low : (n : ℕ) → n < 10 ^ 64 → (k : ℕ) → get_or (decimal n) k 0 < 128
low n small k = elim (which (ltb k (length (decimal n))) refl) [
  | inl within ↦
      omega (
        arith,
        (digit_range (get_or (decimal n) k 0) ((decimal_form n small).each k 0 within)).1,
      )
  | inr past ↦ rw (get_or_past (decimal n) k 0 past) (let e : 0 < 128 = omega arith in e)
]
  where
    which : (b : Bool) → ltb k (length (decimal n)) ≡ b
        → (k < length (decimal n)) ⊎ (length (decimal n) ≤ k)
    which true is = inl (ltb-true k (length (decimal n)) is)
    which false is = inr (ltb-false k (length (decimal n)) is)

-- a star is ASCII
star : (k : ℕ) → get_or (42 ∷ []) k 0 < 128
star zero = omega arith
star (suc k) =
    omega (arith, get_or_past {X = ℕ} [] k 0 (omega arith))

-- it is text
pub entry_utf8 : (entry : Entry) → counted entry < 10 ^ 64 → is_utf8 (entry_text entry) ≡ true
entry_utf8 StructuralZero small =
    is_utf8-from_IsUtf8 (42 ∷ []) (IsUtf8-from_ascii (42 ∷ []) star)
entry_utf8 (Count n) small =
    is_utf8-from_IsUtf8 (decimal n) (IsUtf8-from_ascii (decimal n) (low n small))

-- a number is itself
same_number : (n : ℕ) → (n == n) ≡ true
same_number n = eq-eqb n n refl

-- the elements before the last
pub without_last : (names : List (List ℕ)) (last : List ℕ)
    → remove (names ++ last ∷ []) (length names) ≡ names
without_last names last =
    let fields = names ++ last ∷ [] in
    let rest : drop (suc (length names)) fields ≡ [] =
    ap (λ n. drop n fields) (let e : suc (length names) ≡ length names + 1 = omega arith in e)
    ∙ drop-append-add names (last ∷ []) 1 in
    ap (λ list. list ++ drop (suc (length names)) fields) (take-append_seam names (last ∷ []))
    ∙ ap (λ list. names ++ list) rest ∙ append-nil names

-- a record of levels and an entry is its row
pub row_again : (factors names : List (List ℕ)) (entry : Entry) (number : ℕ)
    → length names ≡ length factors → list_all is_utf8 names ≡ true → counted entry < 10 ^ 64
    → row_of (record { factors = factors; place = length factors }) number
    (names ++ entry_text entry ∷ []) ≡ Ok (record { levels = names; entry = entry })
row_again factors names entry number long texts small =
    let fields = names ++ entry_text entry ∷ [] in
    let all : list_all is_utf8 fields ≡ true =
    list_all-append is_utf8 names (entry_text entry ∷ [])
    ∙ ap (λ b. b && (is_utf8 (entry_text entry) && true)) texts
    ∙ ap (λ b. b && true) (entry_utf8 entry small) in
    let wide : length fields ≡ length factors + 1 =
    length-append names (entry_text entry ∷ []) ∙ ap (λ n. n + 1) long in
    let test : (length fields == length factors + 1) ≡ true =
    ap (λ n. n == length factors + 1) wide ∙ same_number (length factors + 1) in
    let at : get_or fields (length factors) [] ≡ entry_text entry =
    ap (λ n. get_or fields n []) (sym long) ∙ get_or-append_seam names (entry_text entry) [] [] in
    let left : remove fields (length factors) ≡ names =
    ap (λ n. remove fields n) (sym long) ∙ without_last names (entry_text entry) in
    rw (all, test, at, entry_again entry small, left) refl
