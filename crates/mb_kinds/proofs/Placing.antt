-- Named factors have places in the table.
use Rattle.std.proofs.Common.{List, [], arith, get_or, length, map, ℕ, ◌∷◌}
use Rattle.std.proofs.lemmas.List.Elements.{All-cons, All-nil}
use Rattle.std.proofs.lemmas.Option.{slice_get-get_or}
use Rattle.std.specs.List.{range_with_len}
use Rattle.mb_data.specs.CrossTable.{CrossTable}
use Rattle.mb_kinds.specs.Generators.{factors_named}
use Rattle.mb_kinds.specs.loops.Placed.{ArePlaced, IsPlaced}
use Rattle.mb_tables.proofs.ListLaws.{In-filter_only, place-in, range-only}

-- the factors of one generator
pub is_placed : (table : CrossTable) (names : List (List ℕ))
    → IsPlaced table (factors_named table.factors names)
is_placed table names k d within =
    let list = factors_named table.factors names in
    let there = place-in list k (get_or list k d) (slice_get-get_or list k d within) in
    let kept = In-filter_only _ (get_or list k d) (range_with_len 0 (length table.factors)) there in
    let bounds = range-only 0 (length table.factors) (get_or list k d) kept in
    let upper = bounds.1 in
    omega (arith, upper)

-- those of all
pub all_placed : (table : CrossTable) (generators : List (List (List ℕ)))
    → ArePlaced table (map (factors_named table.factors) generators)
all_placed table [] = All-nil (IsPlaced table)
all_placed table (names ∷ generators) =
    All-cons (IsPlaced table) (factors_named table.factors names)
    (map (factors_named table.factors) generators)
    (is_placed table names) (all_placed table generators)
