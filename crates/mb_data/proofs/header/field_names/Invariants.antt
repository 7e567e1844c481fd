use Rattle.std.proofs.Common.{map, take, true, ◌≡◌}
use Rattle.std.specs.List.{list_all}
use Rattle.std.specs.String.{string_bytes}
use Rattle.mb_data.specs.HeaderText.{is_header_field}
use Rattle.mb_data.proofs.header.field_names.Given as goal

abbrev pub invariant-loop-k : goal.invariant-loop-k
invariant-loop-k l =
    (map string_bytes l.names.items ≡ take l.k l.records.fields)
    × (list_all is_header_field (take l.k l.records.fields) ≡ true)
