use Rattle.std.specs.List.{remove}
use Rattle.mb_data.specs.loops.NewLevels.{HaveNames}
use Rattle.mb_data.proofs.record.add_levels.Given as goal

abbrev pub invariant-loop-factor : goal.invariant-loop-factor
invariant-loop-factor l =
    HaveNames l.fn.levels l.levels (remove l.records.fields l.place) l.factor
