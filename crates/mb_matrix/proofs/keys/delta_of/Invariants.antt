use Rattle.std.proofs.Common.{List, drop, ℕ, ◌%◌, ◌*◌, ◌+◌, ◌<◌, ◌^◌, ◌≡◌}
use Rattle.mb_matrix.specs.Key.{key_count, number}
use Rattle.mb_matrix.proofs.keys.delta_of.Given as goal
use Rattle.mb_tables.specs.Step.{Adds}

abbrev pub invariant-loop-digit : goal.invariant-loop-digit
invariant-loop-digit l = record {
  so_far : (u v : List ℕ) → Adds u l.z v →
      (number l.digits u + l.delta + l.place * number (drop l.digit-index l.digits) v) % 2 ^ 64
      ≡ (number l.digits v + l.place * number (drop l.digit-index l.digits) u) % 2 ^ 64;
  fits : l.delta < 2 ^ 64;
  placed : l.place * key_count (drop l.digit-index l.digits) ≡ key_count l.digits;
}
