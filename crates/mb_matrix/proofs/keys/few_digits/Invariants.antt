use Rattle.std.proofs.Common.{drop, map, ◌++◌, ◌<◌, ◌^◌, ◌≡◌, ◌≤◌}
use Rattle.mb_matrix.specs.Key.{digit_of, digits_of, key_count}
use Rattle.mb_matrix.specs.Peel.{free_of}
use Rattle.mb_matrix.proofs.keys.few_digits.Given as goal

abbrev pub invariant-loop-step : goal.invariant-loop-step
invariant-loop-step l = record {
  so_far : l.digits.items
      ++ map (digit_of l.matrix l.margins) (free_of (drop l.step-index l.peel))
      ≡ digits_of l.matrix l.margins;
  sized : l.size ≡ key_count l.digits.items;
  some : 1 ≤ l.size;
  fits : l.size < 2 ^ 64;
}
