use Rattle.std.proofs.Common.{map, ◌≡◌}
use Rattle.std.specs.List.{range_with_len}
use Rattle.mb_kinds.specs.Kinds.{class_row}
use Rattle.mb_kinds.specs.loops.Placed.{end_to_end}
use Rattle.mb_kinds.proofs.hardy_weinberg.class_rows.Given as goal

abbrev pub invariant-loop-class : goal.invariant-loop-class
invariant-loop-class l =
    l.entries.items ≡ end_to_end (map (class_row l.classes) (range_with_len 0 l.class))
