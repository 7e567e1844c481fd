-- The levels of the rows of a written table, and the records of its text.
use Rattle.std.proofs.Common.{List, Some, [], ap, arith, drop, get_or, length, suc, sym, take, zero, ℕ, ◌%◌, ◌*◌, ◌+◌, ◌/◌, ◌<◌, ◌∙◌, ◌∷◌, ◌≡◌, ◌≤◌}
use Rattle.std.proofs.Math.Nat.{le-div_iff_mul-le, min-eq_left, mod-lt}
use Rattle.std.proofs.lemmas.List.{ext_get_or, get_or-map, length-map, length-replicate, take_all}
use Rattle.std.proofs.lemmas.List.FromFn.{get_or-map-range_with_len, length-map-range_with_len}
use Rattle.std.proofs.lemmas.Option.{slice_get-get_or}
use Rattle.std.specs.List.{slice_get}
use Rattle.mb_data.specs.CrossTable.{CrossTable, combination, combinations, sizes}
use Rattle.mb_data.specs.Dataset.{IsCrossTable}
use Rattle.mb_data.specs.DatasetText.{levels_after, with_levels}
use Rattle.mb_data.specs.Levels.{with_name}
use Rattle.mb_data.proofs.CombinationNames.{named_at}
use Rattle.mb_data.proofs.GatheredRows.{levels_more}
use Rattle.mb_data.proofs.LevelDigits.{digit_at, first_there, rest_there, size_there}
use Rattle.mb_data.proofs.LevelsAgain.{level_more, seen}
use Rattle.mb_data.proofs.RowsAgain.{row_in, rows_next, rows_to}
use Rattle.mb_data.proofs.SoundLevels.{no_names, none_at}

-- the levels of the first rows
abbrev pub after : CrossTable → ℕ → List (List (List ℕ))
after table n = levels_after (no_names (length table.factors)) (rows_to table n)

-- the number of combinations of the factors after one
abbrev pub stride : CrossTable → ℕ → ℕ
stride table f = combinations (drop (suc f) (sizes table.levels))

-- one row more
after_next : (table : CrossTable) (n : ℕ)
    → after table (suc n) ≡ with_levels (after table n) (row_in table n).levels
after_next table n =
    ap (levels_after (no_names (length table.factors))) (rows_next table n)
    ∙ levels_more (no_names (length table.factors)) (rows_to table n) (row_in table n)

-- there are levels of each factor
after_long : (table : CrossTable) (n : ℕ) → length (after table n) ≡ length table.factors
unfolding levels_after
after_long table zero = length-replicate (length table.factors) []
after_long table (suc n) =
    ap (λ (list : List (List (List ℕ))). length list) (after_next table n)
    ∙ length-map-range_with_len
    (λ k. with_name (get_or (after table n) k []) (get_or (row_in table n).levels k [])) 0
    (length (after table n))
    ∙ after_long table n

-- the product of the later factors is a part of the whole
later : (list : List ℕ) (f : ℕ) → f < length list → 1 ≤ combinations list
    → (get_or list f 0 * combinations (drop (suc f) list) ≤ combinations list)
    × (1 ≤ combinations (drop (suc f) list))
unfolding combinations
later [] f within some = absurd (omega (arith, within))
later (size ∷ list) zero within some = (
  let e : size * combinations list ≤ size * combinations list = omega arith in e,
  rest_there size (combinations list) 0 some,
)
later (size ∷ list) (suc f) within some =
    let rest = later list f (omega (arith, within))
    (rest_there size (combinations list) 0 some) in (
      many size (combinations list) (get_or list f 0 * combinations (drop (suc f) list))
          (first_there size (combinations list) 0 some) rest.0,
      rest.1,
    )
  where
    many : (size all part : ℕ) → 1 ≤ size → part ≤ all → part ≤ size * all
    many zero all part one less = absurd (omega (arith, one))
    many (suc size) all part one less = omega (arith, less)

-- the level of a factor in a row
level_at : (table : CrossTable) (n f : ℕ) → n < combinations (sizes table.levels)
    → f < length table.levels
    → get_or (row_in table n).levels f []
    ≡ get_or (get_or table.levels f []) (n / stride table f % length (get_or table.levels f [])) []
level_at table n f within inside =
    let names = get_or table.levels f [] in
    let list = sizes table.levels in
    let below : f < length list = omega (arith, inside, length-map table.levels length) in
    let size : get_or list f 0 ≡ length names = get_or-map length table.levels f [] 0 inside in
    let digit = n / stride table f % length names in
    let some : 0 < length names = omega (arith, size, size_there list n f within below) in
    let at : slice_get (combination list n) f ≡ Some digit =
    digit_at list n f within below ∙ ap (λ m. Some (n / stride table f % m)) size in
    named_at table.levels (combination list n) f digit (get_or names digit []) inside at
    (slice_get-get_or names digit [] (mod-lt (n / stride table f) some))

-- the levels of a factor in the first rows
levels_seen : (table : CrossTable) (n f : ℕ) → IsCrossTable table
    → n ≤ combinations (sizes table.levels) → f < length table.levels
    → get_or (after table n) f []
    ≡ take (seen (length (get_or table.levels f [])) (stride table f) n) (get_or table.levels f [])
unfolding levels_after
levels_seen table zero f is within inside = none_at (length table.factors) f
levels_seen table (suc n) f is within inside =
    let names = get_or table.levels f [] in
    let list = sizes table.levels in
    let below : f < length list = omega (arith, inside, length-map table.levels length) in
    let size : get_or list f 0 ≡ length names = get_or-map length table.levels f [] 0 inside in
    let some : 0 < length names = omega (
      arith,
      size,
      size_there list n f (omega (arith, within)) below,
    ) in
    let wide : 0 < stride table f = (later list f below (omega (arith, within))).1 in
    let there : f < length (after table n) =
    omega (arith, inside, after_long table n, is.each_factor) in
    ap (λ levels. get_or levels f []) (after_next table n)
    ∙ get_or-map-range_with_len
    (λ k. with_name (get_or (after table n) k []) (get_or (row_in table n).levels k [])) 0
    (length (after table n)) f f [] there (omega arith)
    ∙ ap (λ names. with_name names (get_or (row_in table n).levels f []))
    (levels_seen table n f is (omega (arith, within)) inside)
    ∙ ap (λ name. with_name (take (seen (length names) (stride table f) n) names) name)
    (level_at table n f (omega (arith, within)) inside)
    ∙ level_more names (stride table f) n (is.apart f) some wide

-- all levels were seen
all_seen : (size stride n : ℕ) → 0 < stride → 1 ≤ n → size * stride ≤ n → seen size stride n ≡ size
all_seen size stride zero wide some all = absurd (omega (arith, some))
all_seen zero stride (suc n) wide some all = min-eq_left (omega arith)
all_seen (suc size) stride (suc n) wide some all =
    let more : suc size * stride ≡ size * stride + stride = grind (arith) in
    let less : size * stride ≤ n = omega (arith, more, wide, all) in
    let up : size ≤ n / stride = (le-div_iff_mul-le wide).1 less in
    min-eq_left (omega (arith, up))

-- so the levels are the table's
pub levels_again : (table : CrossTable) → IsCrossTable table
    → 1 ≤ combinations (sizes table.levels)
    → after table (combinations (sizes table.levels)) ≡ table.levels
levels_again table is some =
    let all = combinations (sizes table.levels) in
    ext_get_or [] (after table all) table.levels (after_long table all ∙ sym is.each_factor)
    (λ f below.
    let names = get_or table.levels f [] in
    let list = sizes table.levels in
    let inside : f < length table.levels =
    omega (arith, below, after_long table all, is.each_factor) in
    let under : f < length list = omega (arith, inside, length-map table.levels length) in
    let size : get_or list f 0 ≡ length names = get_or-map length table.levels f [] 0 inside in
    let parts = later list f under some in
    let most : length names * stride table f ≤ all =
    subst_le (get_or list f 0) (length names) size (stride table f) all parts.0 in
    levels_seen table all f is (let e : all ≤ all = omega arith in e) inside
    ∙ ap (λ m. take m names) (all_seen (length names) (stride table f) all parts.1 some most)
    ∙ take_all (length names) names (let e : length names ≤ length names = omega arith in e))
  where
    subst_le : (a b : ℕ) → a ≡ b → (s n : ℕ) → a * s ≤ n → b * s ≤ n
    subst_le a b same s n less = rw (sym same) less
