use Rattle.std.proofs.Common.{All, length, ◌+◌, ◌≡◌}
use Rattle.mb_tables.specs.Entries.{IsEntry}
use Rattle.mb_moves.specs.loops.Reads.{in_front}
use Rattle.mb_moves.specs.GridText.{entries_after}
use Rattle.mb_text.specs.Tokens.{tokens}
use Rattle.mb_moves.proofs.entries.read_entries.Given as goal

abbrev pub invariant-loop-k : goal.invariant-loop-k
invariant-loop-k l = record {
  count : length l.entries.items ≡ l.k;
  sound : All IsEntry l.entries.items;
  left : entries_after l.wanted l.found (tokens l.text)
      ≡ in_front l.entries.items (entries_after l.wanted (l.found + l.k) (tokens l.rest));
}
