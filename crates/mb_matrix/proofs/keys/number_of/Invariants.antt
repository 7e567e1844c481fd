use Rattle.std.proofs.Common.{drop, ◌*◌, ◌+◌, ◌≡◌}
use Rattle.mb_matrix.specs.Key.{key_count, number}
use Rattle.mb_matrix.proofs.keys.number_of.Given as goal

abbrev pub invariant-loop-digit : goal.invariant-loop-digit
invariant-loop-digit l = record {
  so_far : l.sum + l.place * number (drop l.digit-index l.digits) l.counts
      ≡ number l.digits l.counts;
  placed : l.place * key_count (drop l.digit-index l.digits) ≡ key_count l.digits;
}
