-- The names of the levels of a combination, one by one.
use Rattle.std.proofs.Common.{List, Some, [], ap, arith, get_or, length, refl, suc, zero, ℕ, ◌%◌, ◌<◌, ◌∙◌, ◌∷◌, ◌≡◌}
use Rattle.std.proofs.lemmas.Option.{get_or_from_slice_get}
use Rattle.std.specs.List.{slice_get}
use Rattle.mb_data.specs.CrossTable.{combination, combinations, named, sizes}

-- a combination has a name of each factor
pub each_named : (levels : List (List (List ℕ))) (number : ℕ)
    → length (named levels (combination (sizes levels) number)) ≡ length levels
unfolding combination named
each_named [] number = refl
each_named (names ∷ levels) number =
    ap (λ n. suc n) (each_named levels (number % combinations (sizes levels)))

-- the name of a factor is that of its level
pub named_at : (levels : List (List (List ℕ))) (places : List ℕ) (factor place : ℕ)
    (name : List ℕ) → factor < length levels → slice_get places factor ≡ Some place
    → slice_get (get_or levels factor []) place ≡ Some name
    → get_or (named levels places) factor [] ≡ name
unfolding named
named_at [] places factor place name within at is = absurd (omega (arith, within))
named_at (names ∷ levels) [] factor place name within at is = absurd (cc at)
named_at (names ∷ levels) (first ∷ places) zero place name within at is =
    let same : first ≡ place = cc at in
    ap (λ n. get_or names n []) same ∙ get_or_from_slice_get names place name [] is
named_at (names ∷ levels) (first ∷ places) (suc factor) place name within at is =
    named_at levels places factor place name (omega (arith, within)) at is
