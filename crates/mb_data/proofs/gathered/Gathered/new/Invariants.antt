use Rattle.std.proofs.Common.{[], replicate, ◌≡◌}
use Rattle.mb_data.proofs.gathered.Gathered.new.Given as goal

abbrev pub invariant-loop : goal.invariant-loop
invariant-loop l = l.levels.items ≡ replicate l.counter []
