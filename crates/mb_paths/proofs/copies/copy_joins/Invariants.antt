use Rattle.std.proofs.Common.{take, ◌≡◌}
use Rattle.mb_paths.proofs.copies.copy_joins.Given as goal

abbrev pub invariant-loop-join : goal.invariant-loop-join
invariant-loop-join l = l.copy.items ≡ take l.join-index l.joins
