-- Fields of a record by their places.
use Rattle.std.proofs.Common.{List, None, [], length, refl, suc, sym, zero, ℕ, ◌<◌, ◌∙◌, ◌∷◌, ◌≡◌}
use Rattle.std.specs.List.{slice_get}
use Rattle.std.proofs.lemmas.Option.{slice_get-get_or}
use Rattle.csv.specs.Records.{field_at}

-- the field at a place is the element there
pub field_is : (fields : List (List ℕ)) (place : ℕ) → field_at fields place ≡ slice_get fields place
unfolding field_at
field_is [] place = refl
field_is (field ∷ fields) zero = refl
field_is (field ∷ fields) (suc place) = field_is fields place

-- a place within the fields has one
pub field_there : (fields : List (List ℕ)) (place : ℕ) → place < length fields
    → field_at fields place ≡ None → ⊥
field_there fields place within none =
    absurd (cc (sym (slice_get-get_or fields place [] within) ∙ sym (field_is fields place) ∙ none))
