use Rattle.std.proofs.Common.{drop, ◌++◌, ◌≡◌}
use Rattle.csv.specs.Writing.{default_writer, escaped}
use Rattle.mb_data.proofs.writing.push_escaped.Given as goal

abbrev pub invariant-loop-b : goal.invariant-loop-b
invariant-loop-b l =
    l.out.items ++ escaped default_writer (drop l.b-index l.field)
    ≡ l.fn.out.items ++ escaped default_writer l.field
