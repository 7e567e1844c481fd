use Rattle.std.proofs.Common.{map, ◌≡◌}
use Rattle.std.specs.List.{range_with_len}
use Rattle.mb_desk.specs.GenerateCommand.{digit}
use Rattle.mb_desk.proofs.commands.generate.seed_table.Given as goal

abbrev pub invariant-loop-j : goal.invariant-loop-j
invariant-loop-j l = l.counts.items ≡ map (digit l.seed) (range_with_len 0 l.j)
