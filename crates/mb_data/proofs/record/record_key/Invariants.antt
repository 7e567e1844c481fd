use Rattle.std.proofs.Common.{drop, ◌++◌, ◌≡◌}
use Rattle.std.specs.List.{remove}
use Rattle.mb_data.specs.loops.Keys.{key_of}
use Rattle.mb_data.proofs.record.record_key.Given as goal

abbrev pub invariant-loop-factor : goal.invariant-loop-factor
invariant-loop-factor l =
    l.key.items ++ key_of (drop l.factor (remove l.records.fields l.place))
    ≡ key_of (remove l.records.fields l.place)
