use Rattle.std.proofs.Common.{drop, ◌*◌, ◌≡◌}
use Rattle.mb_matrix.specs.Key.{key_count}
use Rattle.mb_keyed.proofs.key_totals.key_total.Given as goal

abbrev pub invariant-loop-digit : goal.invariant-loop-digit
invariant-loop-digit l = record {
  placed : l.total * key_count (drop l.digit-index l.digits) ≡ key_count l.digits;
}
