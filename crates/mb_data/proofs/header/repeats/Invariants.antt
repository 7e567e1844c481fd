use Rattle.std.proofs.Common.{[], drop, map, ◌≡◌}
use Rattle.std.specs.String.{string_bytes}
use Rattle.mb_data.specs.HeaderText.{has_repeat}
use Rattle.mb_data.proofs.header.repeats.Given as goal

abbrev pub invariant-loop-name : goal.invariant-loop-name
invariant-loop-name l =
    has_repeat [] (map string_bytes l.names)
    ≡ has_repeat l.earlier (drop l.name-index (map string_bytes l.names))
