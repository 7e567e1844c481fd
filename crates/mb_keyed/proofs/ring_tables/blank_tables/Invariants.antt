use Rattle.std.proofs.Common.{All, [], length, ◌≡◌}
use Rattle.mb_keyed.proofs.ring_tables.blank_tables.Given as goal

abbrev pub invariant-loop : goal.invariant-loop
invariant-loop l = record {
  count : length l.tables.items ≡ l.counter;
  blank : All (λ table. table ≡ []) l.tables.items;
}
