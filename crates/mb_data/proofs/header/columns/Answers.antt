use Rattle.std.proofs.Common.{List, None, Ok, Result, Some, ℕ, ap, false, length, map, refl, rules, sym, ◌==◌, ◌∙◌, ◌≡◌}
use Rattle.std.proofs.lemmas.List.{length-map}
use Rattle.std.specs.List.{position}
use Rattle.std.specs.Str.{bytes_eq}
use Rattle.std.specs.String.{string_bytes}
use Rattle.mb_data.specs.HeaderText.{Columns, count_word}
use Rattle.mb_data.specs.declared.fault.DataFault.{DataFault}
use Rattle.mb_data.proofs.HeaderSteps.{position_map, remove_map}
use Rattle.mb_data.proofs.header.columns.Goals as goal

-- the answer of columns
abbrev ok : Columns → Result Columns DataFault
ok columns = Ok columns

pub returns-in_default : goal.returns-in_default
returns-in_default c =
    let found : position (λ name. bytes_eq (string_bytes name) count_word)
    c.args.names.items ≡ None =
    rw c.as_slice.ensures.value at (sym c.count_place.ensures.place) ∙ c.in_default.is in
    rw (position_map string_bytes (λ name. bytes_eq name count_word) c.args.names.items, found) refl

pub returns-then-len-eq1 : goal.returns-then-len-eq1
returns-then-len-eq1 c =
    let found : position (λ name. bytes_eq (string_bytes name) count_word) c.args.names.items
    ≡ Some c.in-Some.place =
    rw c.as_slice.ensures.value at (sym c.count_place.ensures.place) ∙ c.in-Some.is in
    let alone : length c.args.names.items ≡ 1 = search rules in
    rw (
      position_map string_bytes (λ name. bytes_eq name count_word) c.args.names.items,
      found,
      length-map c.args.names.items string_bytes,
      alone,
    ) refl

pub returns : goal.returns
returns c =
    let found : position (λ name. bytes_eq (string_bytes name) count_word) c.args.names.items
    ≡ Some c.in-Some.place =
    rw c.as_slice.ensures.value at (sym c.count_place.ensures.place) ∙ c.in-Some.is in
    let more : (length c.args.names.items == 1) ≡ false = search rules in
    rw (
      position_map string_bytes (λ name. bytes_eq name count_word) c.args.names.items,
      found,
      length-map c.args.names.items string_bytes,
      more,
    )
    (ap (λ (factors : List (List ℕ)). let columns : Columns =
    record { factors = factors; place = c.in-Some.place } in ok columns)
    (ap (map string_bytes) c.remove.ensures.items
    ∙ remove_map string_bytes c.args.names.items c.in-Some.place))
