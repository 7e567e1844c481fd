use Rattle.std.proofs.Common.{◌≤◌}
use Rattle.mb_claims.specs.Limits.{most_words}
use Rattle.mb_keyed.proofs.shard_words.words_for.Given as goal

abbrev pub invariant-loop-size : goal.invariant-loop-size
invariant-loop-size l = record {
  enough : l.least ≤ 1966793 → l.least ≤ l.words;
  some : 1 ≤ l.words;
  most : l.words ≤ most_words;
}
