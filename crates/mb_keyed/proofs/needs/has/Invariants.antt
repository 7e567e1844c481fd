use Rattle.std.proofs.Common.{slice_index_or, ◌≤◌}
use Rattle.std.specs.List.{AllWithin}
use Rattle.mb_keyed.proofs.needs.has.Given as goal

abbrev pub invariant-loop-need : goal.invariant-loop-need
invariant-loop-need l =
    AllWithin (λ need. need.count ≤ slice_index_or l.counts need.cell 0) l.needs 0 l.need-index
