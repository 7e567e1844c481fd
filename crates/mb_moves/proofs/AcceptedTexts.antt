-- Which tokens are accepted.
use Rattle.std.proofs.Common.{Err, List, None, Ok, Option, Result, Some, [], ap, arith, cond, eqb, false, leb, length, ltb, map, negsuc, pos, refl, subst, sym, true, Bool, ℕ, ℤ, ◌*◌, ◌+◌, ◌<◌, ◌^◌, ◌≡◌, ◌≤◌, ◌∙◌, ◌∷◌, ◌&&◌}
use Rattle.std.proofs.lemmas.Bool.{and_from, and_parts, eq-eqb, eqb-true, le-leb, leb-true, lt-ltb, ltb-true, ne_eqb}
use Rattle.std.proofs.lemmas.Int.{ints}
use Rattle.std.proofs.lemmas.List.Elements.{All-from_recursion, recursion_from_All}
use Rattle.std.specs.Int.RustNames.{unsigned_abs}
use Rattle.std.specs.List.{AllByRecursion}
use Rattle.mb_tables.specs.Answers.{◌>>=◌}
use Rattle.mb_tables.specs.Entries.{IsEntry}
use Rattle.mb_tables.specs.Limits.{most_cells}
use Rattle.mb_tables.specs.Rows.{AreRows, Rows, array_of, rows_of}
use Rattle.mb_text.specs.Numerals.{number_of}
use Rattle.mb_moves.proofs.ArraySteps.{and_entries, and_width, array_in-sizes}
use Rattle.mb_moves.proofs.EntrySteps.{and_others}
use Rattle.mb_tables.proofs.RowsOfEntries.{flat_map-rows_of, length-rows_of}
use Rattle.mb_moves.proofs.RowsEndToEnd.{all_rows, array_of-end_to_end, end_to_end, entries_end_to_end, rows_made}
use Rattle.mb_moves.specs.GridText.{array_in, entries_after, entry_of, entry_within, size_of, size_within}
use Rattle.mb_moves.specs.Laws.{Says}
use Rattle.mb_moves.specs.declared.fault.GridFault.{GridFault}
use Rattle.mb_moves.specs.declared.fault.GridFault.TheVariants.{NoSize, TooFew, TooMany, TooWideNumber}

-- the value of a step that has no fault
pub bind_ok : {A B : Type 0} (r : Result A GridFault) (f : A → Result B GridFault) (y : B) →
    (r >>= f) ≡ Ok y →
    (x : A) × (r ≡ Ok x) × (f x ≡ Ok y)
bind_ok (Ok x) f y e = (x, refl, e)
bind_ok (Err fault) f y e = absurd cc

-- a test that has the value on its true side
test_ok : {A : Type 0} (b : Bool) (x y : A) (fault : GridFault) → cond b (Ok x) (Err fault) ≡ Ok y →
    (b ≡ true) × (x ≡ y)
test_ok true x y fault e = (refl, cc)
test_ok false x y fault e = absurd cc

-- a test that leads on from its false side
test_on : {A : Type 0} (b : Bool) (fault : GridFault) (r : Result A GridFault) (y : A) →
    cond b (Err fault) r ≡ Ok y → (b ≡ false) × (r ≡ Ok y)
test_on true fault r y e = absurd cc
test_on false fault r y e = (refl, e)

-- a number within the limits of entries
pub entry_in : (z : ℤ) → unsigned_abs z < 2 ^ 31 → IsEntry z
entry_in (pos n) h = (omega (arith, ints), omega (arith, ints))
entry_in (negsuc n) h = (omega (arith, ints), omega (arith, ints))

-- and back
pub in_entry : (z : ℤ) → IsEntry z → unsigned_abs z < 2 ^ 31
in_entry (pos n) h = let l = h.1 in omega (arith, ints)
in_entry (negsuc n) h = let l = h.0 in omega (arith, ints)

-- a number that is an entry
pub entry_taken : (place : ℕ) (number : Option ℤ) (z : ℤ) → entry_within place number ≡ Ok z →
    (number ≡ Some z) × IsEntry z
entry_taken place None z e = absurd cc
entry_taken place (Some y) z e =
    let t = test_ok (ltb (unsigned_abs y) (2 ^ 31)) y z (TooWideNumber place) e in
    (ap Some t.1, subst IsEntry t.1 (entry_in y (ltb-true _ _ t.0)))

-- and back: it is taken as one
pub entry_given : (place : ℕ) (number : Option ℤ) (z : ℤ) → number ≡ Some z → IsEntry z →
    entry_within place number ≡ Ok z
entry_given place number z e h =
    ap (entry_within place) e
    ∙ ap (λ b. cond b (Ok z) (Err (TooWideNumber place))) (lt-ltb _ _ (in_entry z h))

-- what tokens that are all entries say, from so many found on
abbrev TakesAll : ℕ → ℕ → List (List ℕ) → List ℤ → Type 0
TakesAll wanted found tokens zs =
    (map number_of tokens ≡ map Some zs) × (found + length zs ≡ wanted) × AllByRecursion IsEntry zs

-- tokens that are all entries
entries_taken : (wanted found : ℕ) (tokens : List (List ℕ)) (zs : List ℤ) →
    entries_after wanted found tokens ≡ Ok zs →
    TakesAll wanted found tokens zs
unfolding entries_after
entries_taken wanted found [] zs e =
    let t = test_ok (eqb found wanted) [] zs (TooFew found wanted) e in
    subst (TakesAll wanted found []) t.1 (refl, omega (arith, eqb-true found wanted t.0), tt)
entries_taken wanted found (token ∷ others) zs e =
    let on = and_others wanted (found + 1) others in
    let read = entry_of (found + 3) token in
    let t = test_on (eqb found wanted) (TooMany wanted) (read >>= on) zs e in
    let a = bind_ok read on zs t.1 in
    let b = bind_ok (entries_after wanted (found + 1) others) (λ entries. Ok (a.0 ∷ entries)) zs
    a.2 in
    let first = entry_taken (found + 3) (number_of token) a.0 a.1 in
    let rest = entries_taken wanted (found + 1) others b.0 b.1 in
    let is : (a.0 ∷ b.0) ≡ zs = cc in
    subst (TakesAll wanted found (token ∷ others)) is (
      ap (λ number. number ∷ map number_of others) first.0
          ∙ ap (λ numbers. Some a.0 ∷ numbers) rest.0,
      omega (arith, rest.1),
      (first.1, rest.2),
    )

-- and so many entries are taken
entries_given : (wanted found : ℕ) (tokens : List (List ℕ)) (zs : List ℤ) →
    map number_of tokens ≡ map Some zs → found + length zs ≡ wanted → AllByRecursion IsEntry zs →
    entries_after wanted found tokens ≡ Ok zs
unfolding entries_after
entries_given wanted found [] [] e n h =
    ap (λ b. cond b (Ok []) (Err (TooFew found wanted))) (eq-eqb found wanted (omega arith))
entries_given wanted found [] (z ∷ zs) e n h = absurd cc
entries_given wanted found (token ∷ others) [] e n h = absurd cc
entries_given wanted found (token ∷ others) (z ∷ zs) e n h =
    let head : number_of token ≡ Some z = cc in
    let tail : map number_of others ≡ map Some zs = cc in
    let rest = entries_given wanted (found + 1) others zs tail (omega arith) h.1 in
    let on = and_others wanted (found + 1) others in
    ap (λ b. cond b (Err (TooMany wanted)) (entry_of (found + 3) token >>= on))
    (ne_eqb found wanted (λ same. omega arith))
    ∙ ap (λ (r : Result ℤ GridFault). r >>= on)
    (entry_given (found + 3) (number_of token) z head h.0)
    ∙ ap (λ (r : Result (List ℤ) GridFault). r >>= λ entries. Ok (z ∷ entries)) rest

-- a number that is a size
pub size_taken : (lowest highest : ℕ) (number : Option ℤ) (n : ℕ) →
    size_within lowest highest number ≡ Ok n →
    (number ≡ Some (pos n)) × (lowest ≤ n) × (n ≤ highest)
size_taken lowest highest None n e = absurd cc
size_taken lowest highest (Some (negsuc k)) n e = absurd cc
size_taken lowest highest (Some (pos k)) n e =
    let t = test_ok (leb lowest k && leb k highest) k n NoSize e in
    let parts = and_parts (leb lowest k) (leb k highest) t.0 in
    let low = leb-true lowest k parts.0 in
    let high = leb-true k highest parts.1 in
    let is = t.1 in
    (ap (λ m. Some (pos m)) t.1, omega arith, omega arith)

-- and back: it is taken as one
pub size_given : (lowest highest : ℕ) (number : Option ℤ) (n : ℕ) →
    number ≡ Some (pos n) → lowest ≤ n → n ≤ highest → size_within lowest highest number ≡ Ok n
size_given lowest highest number n e low high =
    ap (size_within lowest highest) e
    ∙ ap (λ b. cond b (Ok n) (Err NoSize))
    (and_from (leb lowest n) (leb n highest) (le-leb lowest n low) (le-leb n highest high))

-- the array of two sizes and entries, and what its tokens say
array_made : (lowest highest : ℕ) (first second : List ℕ) (others : List (List ℕ))
    (count width : ℕ) (entries : List ℤ) →
    size_of lowest highest first ≡ Ok count → size_of 1 most_cells second ≡ Ok width →
    entries_after (count * width) 0 others ≡ Ok entries →
    AreRows lowest highest (array_of width count entries)
    × Says (first ∷ second ∷ others) (array_of width count entries)
array_made lowest highest first second others count width entries e f g =
    let r = size_taken lowest highest (number_of first) count e in
    let c = size_taken 1 most_cells (number_of second) width f in
    let all = entries_taken (count * width) 0 others entries g in
    let full : length entries ≡ count * width = omega (arith, all.1) in (
      rows_made lowest highest width count entries r.1 r.2 c.1 c.2 full
          (All-from_recursion IsEntry entries all.2),
      ap (λ number. number ∷ number_of second ∷ map number_of others) r.0
          ∙ ap (λ number. Some (pos count) ∷ number ∷ map number_of others) c.0
          ∙ ap (λ numbers. Some (pos count) ∷ Some (pos width) ∷ numbers) all.0
          ∙ ap (λ n. map Some (pos n ∷ pos width ∷ entries))
          (sym (length-rows_of width count entries))
          ∙ ap (λ zs. map Some (pos (length (rows_of width count entries)) ∷ pos width ∷ zs))
          (sym (flat_map-rows_of width count entries full)),
    )

-- tokens that are an array
pub array_taken : (lowest highest : ℕ) (tokens : List (List ℕ)) (array : Rows) →
    array_in lowest highest tokens ≡ Ok array → AreRows lowest highest array × Says tokens array
unfolding array_in
array_taken lowest highest [] array e = absurd cc
array_taken lowest highest (first ∷ []) array e = absurd cc
array_taken lowest highest (first ∷ second ∷ others) array e =
    let a = bind_ok (size_of lowest highest first) (and_width second others) array e in
    let b = bind_ok (size_of 1 most_cells second) (and_entries others a.0) array a.2 in
    let d = bind_ok (entries_after (a.0 * b.0) 0 others) (λ zs. Ok (array_of b.0 a.0 zs)) array
    b.2 in
    let is : array_of b.0 a.0 d.0 ≡ array = cc in
    let made = array_made lowest highest first second others a.0 b.0 d.0 a.1 b.1 d.1 in
    subst (λ (r : Rows). AreRows lowest highest r × Says (first ∷ second ∷ others) r) is made

-- and an array is taken
pub array_given : (lowest highest : ℕ) (tokens : List (List ℕ)) (array : Rows) →
    AreRows lowest highest array → Says tokens array → array_in lowest highest tokens ≡ Ok array
array_given lowest highest [] array h e = absurd cc
array_given lowest highest (first ∷ []) array h e = absurd cc
array_given lowest highest (first ∷ second ∷ others) array h e =
    let count = length array.rows in
    let entries = end_to_end array.rows in
    let one : number_of first ≡ Some (pos count) = cc in
    let two : number_of second ≡ Some (pos array.width) = cc in
    let more : map number_of others ≡ map Some entries = cc in
    let rows = size_given lowest highest (number_of first) count one h.some h.few in
    let cols = size_given 1 most_cells (number_of second) array.width two h.positive h.narrow in
    let size = all_rows count array.width array.rows refl h.each in
    let each = recursion_from_All IsEntry entries (entries_end_to_end array.rows h.entries) in
    array_in-sizes lowest highest first second others count array.width rows cols
    ∙ ap (λ (r : Result (List ℤ) GridFault). r >>= λ zs. Ok (array_of array.width count zs))
    (entries_given (count * array.width) 0 others entries more (omega (arith, size)) each)
    ∙ ap Ok (array_of-end_to_end array count array.width refl refl h.each)
