use Rattle.std.proofs.Common.{List, [], length, ◌+◌, ◌<◌, ◌^◌, ◌≡◌}
use Rattle.std.specs.Vec.{vec_len}
use Rattle.mb_data.specs.DatasetText.{Row, rows_of}
use Rattle.mb_data.specs.loops.Gathers.{HasGathered}
use Rattle.mb_data.proofs.reading.read_rows.Given as goal

abbrev pub invariant-loop-gathered : goal.invariant-loop-gathered
invariant-loop-gathered l =
    (vec_len l.gathered.levels ≡ length l.header.factors)
    × (l.number + length l.left.left < 2 ^ 64)
    × ((rows : List Row) × HasGathered (length l.header.factors) rows l.gathered
    × (rows_of l.header l.number rows l.left.left ≡ rows_of l.header 2 [] l.fn.records.left))

abbrev pub decreases-loop-gathered : goal.decreases-loop-gathered
decreases-loop-gathered l = length l.left.left
