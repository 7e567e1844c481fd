use Rattle.std.proofs.Common.{drop, ◌≡◌, ◌≤◌}
use Rattle.mb_text.specs.Numerals.{natural_after}
use Rattle.mb_text.proofs.plain.short_within.Given as goal

abbrev pub invariant-loop-b : goal.invariant-loop-b
invariant-loop-b l = record {
  bound : l.n ≤ l.highest;
  left : natural_after l.n (drop l.b-index l.digits) ≡ natural_after 0 l.digits;
}
