use Rattle.std.proofs.Common.{take, ◌≡◌}
use Rattle.mb_paths.proofs.copies.copy_starts.Given as goal

abbrev pub invariant-loop-start : goal.invariant-loop-start
invariant-loop-start l = l.copy.items ≡ take l.start-index l.starts
