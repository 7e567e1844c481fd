use Rattle.std.proofs.Common.{length, ◌*◌, ◌≡◌}
use Rattle.std.specs.List.{All}
use Rattle.mb_moves.proofs.RowsEndToEnd.{end_to_end}
use Rattle.mb_moves.specs.loops.Reads.{in_front}
use Rattle.mb_moves.specs.GridText.{entries_after}
use Rattle.mb_text.specs.Tokens.{tokens}
use Rattle.mb_moves.proofs.reading.read_rows.Given as goal

abbrev pub invariant-loop-k : goal.invariant-loop-k
invariant-loop-k l = record {
  width : l.moves.width ≡ l.sizes.cols;
  count : length l.moves.rows ≡ l.k;
  each : All (λ row. length row ≡ l.sizes.cols) l.moves.rows;
  left : entries_after l.wanted 0 (tokens l.text)
      ≡ in_front (end_to_end l.moves.rows)
      (entries_after l.wanted (l.k * l.sizes.cols) (tokens l.rest));
}
