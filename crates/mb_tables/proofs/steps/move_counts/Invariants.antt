use Rattle.std.proofs.Common.{drop, get_or, length, pos, ℕ, ◌<◌, ◌≡◌}
use Rattle.mb_tables.specs.Counts.{AreCounts}
use Rattle.mb_tables.specs.loops.Cell.{CanMoveParts, moved}
use Rattle.mb_tables.specs.loops.Parts.{entries_of}
use Rattle.mb_tables.proofs.steps.move_counts.Given as goal

abbrev pub invariant-loop-part : goal.invariant-loop-part
invariant-loop-part l = record {
  fits : AreCounts l.counts;
  can : CanMoveParts l.sign l.counts l.parts l.part-index (length l.parts);
  each : (k : ℕ) → k < length l.initial.counts →
      moved l.sign (get_or l.counts k 0)
      (get_or (entries_of (length l.initial.counts) (drop l.part-index l.parts)) k (pos 0))
      ≡ moved l.sign (get_or l.initial.counts k 0)
      (get_or (entries_of (length l.initial.counts) l.parts) k (pos 0));
}
