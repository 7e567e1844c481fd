use Rattle.std.proofs.Common.{map, ◌≡◌}
use Rattle.std.specs.List.{range_with_len}
use Rattle.mb_matrix.specs.Measure.{group_at}
use Rattle.mb_matrix.specs.Scheme.{scheme_of}
use Rattle.mb_matrix.proofs.measure.groups_of.Given as goal

abbrev pub invariant-loop-cell : goal.invariant-loop-cell
invariant-loop-cell l =
    l.groups.items ≡ map (group_at l.matrix (scheme_of l.scale)) (range_with_len 0 l.cell)
