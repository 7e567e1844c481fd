-- The levels of a generator's factors, factor by factor.
use Rattle.std.proofs.Common.{Bool, List, Some, [], ap, arith, drop, get_or, length, nat_eq, refl, sym, true, zero, suc, ℕ, ◌%◌, ◌&&◌, ◌*◌, ◌+◌, ◌/◌, ◌<◌, ◌∙◌, ◌∷◌, ◌≡◌, ◌≤◌}
use Rattle.std.proofs.Math.Nat.{mul-div_cancel_left, mul_assoc}
use Rattle.std.proofs.lemmas.List.{drop_all, drop_more, get_or-map}
use Rattle.std.proofs.lemmas.List.Elements.{All-drop, All-head, All-tail}
use Rattle.std.proofs.lemmas.Option.{get_or_from_slice_get}
use Rattle.std.specs.Cmp.Lexicographic.{pointwise}
use Rattle.std.specs.List.{slice_get}
use Rattle.mb_data.proofs.LevelDigits.{size_there}
use Rattle.mb_data.proofs.WrittenRead.{some_entries}
use Rattle.mb_data.specs.CrossTable.{CrossTable, combination, combinations, sizes}
use Rattle.mb_data.specs.Dataset.{IsCrossTable}
use Rattle.mb_kinds.specs.Generators.{levels_of, sizes_of}
use Rattle.mb_kinds.specs.loops.Placed.{IsPlaced}

-- the number of levels of a factor
pub size_at : (levels : List (List (List ℕ))) (factor : ℕ) → factor < length levels
    → get_or (sizes levels) factor 0 ≡ length (get_or levels factor [])
size_at levels factor within = get_or-map length levels factor [] 0 within

-- the combinations of one factor and those after it
combinations-cons : (size : ℕ) (others : List ℕ)
    → combinations (size ∷ others) ≡ size * combinations others
unfolding combinations
combinations-cons size others = refl

-- no factor has one combination
pub combinations-nil : combinations [] ≡ 1
unfolding combinations
combinations-nil = refl

-- a table has a combination
pub some_combination : (table : CrossTable) → IsCrossTable table
    → 0 < combinations (sizes table.levels)
some_combination table is =
    let some = some_entries table.entries is.some_cells in
    let full = is.full in
    omega (arith, some, full)

-- so each of its factors has a level
pub some_level : (table : CrossTable) → IsCrossTable table → (factor : ℕ)
    → factor < length table.factors
    → 1 ≤ get_or (sizes table.levels) factor 0
some_level table is factor within =
    size_there (sizes table.levels) 0 factor (some_combination table is)
    (let e = is.each_factor in let l = long table.levels in omega (arith, e, l, within))
  where
    long : (levels : List (List (List ℕ))) → length (sizes levels) ≡ length levels
    long [] = refl
    long (names ∷ levels) = ap suc (long levels)

-- a product of numbers above 0
pub some_product : (a b : ℕ) → 1 ≤ a → 1 ≤ b → 1 ≤ a * b
some_product (suc a) (suc b) p q = omega arith
some_product zero b p q = absurd (omega (arith, p))
some_product (suc a) zero p q = absurd (omega (arith, q))

-- and factors of the table have a combination
pub some_margin : (table : CrossTable) → IsCrossTable table → (generator : List ℕ)
    → IsPlaced table generator → 1 ≤ combinations (sizes_of table.levels generator)
some_margin table is [] placed = let e = combinations-nil in omega (arith, e)
some_margin table is (factor ∷ generator) placed =
    let within = All-head (λ k. k < length table.factors) factor generator placed in
    let others = All-tail (λ k. k < length table.factors) factor generator placed in
    let e = combinations-cons (get_or (sizes table.levels) factor 0)
    (sizes_of table.levels generator) in
    let some = some_product (get_or (sizes table.levels) factor 0)
    (combinations (sizes_of table.levels generator)) (some_level table is factor within)
    (some_margin table is generator others) in
    omega (arith, e, some)

-- what is left of a generator from a place on
pub left_margin : (levels : List (List (List ℕ))) (generator : List ℕ) (i factor : ℕ)
    → i < length generator → get_or generator i 0 ≡ factor
    → combinations (sizes_of levels (drop i generator))
    ≡ get_or (sizes levels) factor 0 * combinations (sizes_of levels (drop (i + 1) generator))
left_margin levels generator i factor within is =
    ap (λ g. combinations (sizes_of levels g)) (drop_more generator i 0 within)
    ∙ ap (λ f. combinations (sizes_of levels (f ∷ drop (i + 1) generator))) is
    ∙ combinations-cons (get_or (sizes levels) factor 0) (sizes_of levels (drop (i + 1) generator))

-- how many combinations were counted, with one factor more
pub counted_more : (levels : List (List (List ℕ))) (generator : List ℕ)
    (i factor count next total : ℕ)
    → i < length generator → get_or generator i 0 ≡ factor
    → count * combinations (sizes_of levels (drop i generator)) ≡ total
    → next ≡ count * get_or (sizes levels) factor 0
    → next * combinations (sizes_of levels (drop (i + 1) generator)) ≡ total
counted_more levels generator i factor count next total within is before e =
    ap (λ n. n * combinations (sizes_of levels (drop (i + 1) generator))) e
    ∙ mul_assoc count (get_or (sizes levels) factor 0)
    (combinations (sizes_of levels (drop (i + 1) generator)))
    ∙ ap (λ n. count * n) (sym (left_margin levels generator i factor within is))
    ∙ before

-- a product is at least each of its factors
pub left_grows : (a b : ℕ) → 1 ≤ b → a ≤ a * b
left_grows zero b q = omega arith
left_grows (suc a) zero q = absurd (omega (arith, q))
left_grows (suc a) (suc b) q = let e = left_grows a (suc b) (omega arith) in omega (arith, e)

pub right_grows : (a b : ℕ) → 1 ≤ a → b ≤ a * b
right_grows zero b q = absurd (omega (arith, q))
right_grows (suc a) b q = omega arith

-- whether these levels are those of a combination of the table
abbrev pub same : List (List (List ℕ)) → List ℕ → ℕ → ℕ → Bool
same levels generator number cell =
    pointwise nat_eq (combination (sizes_of levels generator) number)
    (levels_of levels generator cell)

same-cons : (levels : List (List (List ℕ))) (factor : ℕ) (generator : List ℕ) (number cell : ℕ)
    → same levels (factor ∷ generator) number cell
    ≡ (nat_eq (number / combinations (sizes_of levels generator))
    (get_or (combination (sizes levels) cell) factor 0)
    && same levels generator (number % combinations (sizes_of levels generator)) cell)
unfolding combination
same-cons levels factor generator number cell = refl

-- from a place on, the level of its factor comes first
pub same_left : (levels : List (List (List ℕ))) (generator : List ℕ)
    (i factor number cell level rest : ℕ)
    → i < length generator → get_or generator i 0 ≡ factor
    → slice_get (combination (sizes levels) cell) factor ≡ Some level
    → rest ≡ combinations (sizes_of levels (drop (i + 1) generator))
    → same levels (drop i generator) number cell
    ≡ (nat_eq (number / rest) level && same levels (drop (i + 1) generator) (number % rest) cell)
same_left levels generator i factor number cell level rest within is at e =
    let others = drop (i + 1) generator in
    ap (λ g. same levels g number cell) (drop_more generator i 0 within)
    ∙ ap (λ f. same levels (f ∷ others) number cell) is
    ∙ same-cons levels factor others number cell
    ∙ ap (λ l. nat_eq (number / combinations (sizes_of levels others)) l
    && same levels others (number % combinations (sizes_of levels others)) cell)
    (get_or_from_slice_get (combination (sizes levels) cell) factor level 0 at)
    ∙ ap (λ r. nat_eq (number / r) level && same levels others (number % r) cell) (sym e)

-- the size of what is left after a factor
pub size_left : (levels : List (List (List ℕ))) (generator : List ℕ) (i factor size : ℕ)
    → i < length generator → get_or generator i 0 ≡ factor
    → size ≡ combinations (sizes_of levels (drop i generator))
    → 1 ≤ get_or (sizes levels) factor 0
    → size / get_or (sizes levels) factor 0 ≡ combinations
    (sizes_of levels (drop (i + 1) generator))
size_left levels generator i factor size within is e some =
    ap (λ n. n / get_or (sizes levels) factor 0)
    (e ∙ left_margin levels generator i factor within is)
    ∙ mul-div_cancel_left (combinations (sizes_of levels (drop (i + 1) generator)))
    (omega (arith, some))

-- no factor is left
pub same_nil : (levels : List (List (List ℕ))) (number cell : ℕ) → same levels [] number cell ≡ true
unfolding combination
same_nil levels number cell = refl

-- one factor after another, of a generator of a table
module _ (table : CrossTable) (is : IsCrossTable table) (generator : List ℕ)
    (placed : IsPlaced table generator) (i : ℕ) (within : i < length generator) (n : ℕ)
    (levels : n ≡ length (get_or table.levels (get_or generator i 0) [])) where
  -- its number of levels
  pub is_size : n ≡ get_or (sizes table.levels) (get_or generator i 0) 0
  is_size =
      levels ∙ sym (size_at table.levels (get_or generator i 0)
      (let e = is.each_factor in let p = placed i 0 within in omega (arith, e, p)))

  -- which is above 0
  pub is_some : 1 ≤ n
  is_some =
      let e = is_size in
      let some = some_level table is (get_or generator i 0) (placed i 0 within) in
      omega (arith, e, some)

  -- the combinations of what is left
  pub others : 1 ≤ combinations (sizes_of table.levels (drop (i + 1) generator))
  others = some_margin table is (drop (i + 1) generator)
      (All-drop (λ k. k < length table.factors) (i + 1) generator placed)

  pub is_left : (size : ℕ) → size ≡ combinations (sizes_of table.levels (drop i generator))
      → size / n ≡ combinations (sizes_of table.levels (drop (i + 1) generator))
  is_left size e =
      ap (λ m. size / m) is_size
      ∙ size_left table.levels generator i (get_or generator i 0) size within refl e
      (some_level table is (get_or generator i 0) (placed i 0 within))

  pub is_positive : (size : ℕ) → size ≡ combinations (sizes_of table.levels (drop i generator))
      → 0 < size / n
  is_positive size e = let l = is_left size e in let o = others in omega (arith, l, o)

  -- more levels than 64 make more combinations
  pub many_levels : (count total : ℕ) → 1 ≤ count → 64 < n
      → count * combinations (sizes_of table.levels (drop i generator)) ≡ total → 64 < total
  many_levels count total some many e =
      let m = left_margin table.levels generator i (get_or generator i 0) within refl in
      let l = left_grows (get_or (sizes table.levels) (get_or generator i 0) 0)
      (combinations (sizes_of table.levels (drop (i + 1) generator))) others in
      let r = right_grows count (combinations (sizes_of table.levels (drop i generator))) some in
      let s = is_size in
      omega (arith, m, l, r, s, e, many)

  pub count_more : (count total : ℕ)
      → count * combinations (sizes_of table.levels (drop i generator)) ≡ total
      → count * n * combinations (sizes_of table.levels (drop (i + 1) generator)) ≡ total
  count_more count total e =
      counted_more table.levels generator i (get_or generator i 0) count
      (count * n) total within refl e
      (ap (λ m. count * m) is_size)

  pub many_counted : (count total : ℕ) → 64 < count * n
      → count * combinations (sizes_of table.levels (drop i generator)) ≡ total → 64 < total
  many_counted count total many e =
      let m = count_more count total e in
      let l = left_grows (count * n)
      (combinations (sizes_of table.levels (drop (i + 1) generator))) others in
      omega (arith, m, l, many)

-- all factors are counted
pub all_counted : (levels : List (List (List ℕ))) (generator : List ℕ) (i count total : ℕ)
    → length generator ≤ i → count * combinations (sizes_of levels (drop i generator)) ≡ total
    → count ≡ total
all_counted levels generator i count total past e =
    let one = ap (λ g. combinations (sizes_of levels g)) (drop_all i generator past)
    ∙ combinations-nil in
    let same = ap (λ n. count * n) one in
    omega (arith, same, e)
