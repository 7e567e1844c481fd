-- The levels of a record are added factor by factor.
use Rattle.std.proofs.Common.{List, Some, [], ap, arith, get_or, get_or-set_other, get_or-set_same, if◌then◌else◌, inl, inr, length, length-set, nat_lt, refl, set, sym, ℕ, ◌+◌, ◌<◌, ◌∙◌, ◌≡◌, ◌⊎◌}
use Rattle.std.specs.List.{remove, slice_get}
use Rattle.std.proofs.lemmas.List.{ext_get_or}
use Rattle.std.proofs.lemmas.List.FromFn.{get_or-map-range_with_len, length-map-range_with_len}
use Rattle.std.proofs.lemmas.List.Edits.{get_or-remove_above, get_or-remove_below}
use Rattle.std.proofs.lemmas.Bool.{cases_Bool, ltb-false, ltb-true}
use Rattle.std.proofs.lemmas.Option.{get_or_from_slice_get}
use Rattle.mb_data.specs.DatasetText.{with_levels}
use Rattle.mb_data.specs.Levels.{with_name}
use Rattle.mb_data.specs.loops.NewLevels.{HaveNames}

-- the level of a factor is the field at its place
pub level_field : (fields : List (List ℕ)) (place factor at : ℕ) (field : List ℕ)
    → place < length fields → at ≡ (if nat_lt factor place then factor else factor + 1)
    → slice_get fields at ≡ Some field → get_or (remove fields place) factor [] ≡ field
level_field fields place factor at field within is there = elim (cases_Bool (nat_lt factor place)) [
  | inl before ↦
      get_or-remove_below fields place [] factor (ltb-true factor place before) within
      ∙ get_or_from_slice_get fields factor field []
      (ap (slice_get fields) (sym (rw before at is)) ∙ there)
  | inr after ↦
      get_or-remove_above fields place [] factor
      (ltb-false factor place after) within
      ∙ get_or_from_slice_get fields (factor + 1) field []
      (ap (slice_get fields) (sym (rw after at is)) ∙ there)
]

-- no factor has its name at first
pub no_names : (levels : List (List (List ℕ))) (row : List (List ℕ)) → HaveNames levels levels row 0
no_names levels row = record {
  factors = refl;
  done = λ j below. absurd (omega (arith, below));
  left = λ j above. refl;
}

-- the name of one factor more, at that factor
name_here : (before now : List (List (List ℕ))) (row : List (List ℕ)) (k : ℕ)
    (names : List (List ℕ)) → k < length before → HaveNames before now row k
    → names ≡ with_name (get_or now k []) (get_or row k [])
    → get_or (set now k names) k [] ≡ with_name (get_or before k []) (get_or row k [])
name_here before now row k names within so_far added =
    get_or-set_same now k names [] (omega (arith, within, so_far.factors))
    ∙ added ∙ ap (λ old. with_name old (get_or row k [])) (so_far.left k (omega arith))

-- the name of one factor more
pub name_more : (before now : List (List (List ℕ))) (row : List (List ℕ)) (k : ℕ)
    (names : List (List ℕ)) → k < length before → HaveNames before now row k
    → names ≡ with_name (get_or now k []) (get_or row k [])
    → HaveNames before (set now k names) row (k + 1)
name_more before now row k names within so_far added = record {
  factors = length-set now k names ∙ so_far.factors;
  done = λ j below. elim (up_to j below) [
    | inl less ↦
        get_or-set_other now k j names [] (omega (arith, less)) ∙ so_far.done j less
    | inr same ↦ rw same (name_here before now row k names within so_far added)
  ];
  left = λ j above.
      get_or-set_other now k j names [] (omega (arith, above))
      ∙ so_far.left j (omega (arith, above));
}
  where
    up_to : (j : ℕ) → j < k + 1 → (j < k) ⊎ (j ≡ k)
    up_to j below = grind (arith, below)

-- all factors have their names
pub all_names : (before now : List (List (List ℕ))) (row : List (List ℕ))
    → HaveNames before now row (length before) → now ≡ with_levels before row
all_names before now row all =
    ext_get_or [] now (with_levels before row)
    (all.factors ∙ sym (length-map-range_with_len _ 0 (length before)))
    (λ j below.
    let within : j < length before = omega (arith, below, all.factors) in
    all.done j within
    ∙ sym (get_or-map-range_with_len
    (λ k. with_name (get_or before k []) (get_or row k [])) 0 (length before) j j [] within
    (omega arith)))
