use Rattle.std.proofs.Common.{drop, ◌++◌, ◌≡◌}
use Rattle.mb_tables.specs.loops.Parts.{is_low, picked}
use Rattle.mb_tables.proofs.part.push_lows.Given as goal

abbrev pub invariant-loop-cell : goal.invariant-loop-cell
invariant-loop-cell l =
    l.parts.items ++ picked is_low l.cell (drop l.cell l.entries)
    ≡ l.initial.parts.items ++ picked is_low 0 l.entries
