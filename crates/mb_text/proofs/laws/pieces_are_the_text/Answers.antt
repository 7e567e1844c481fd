use Rattle.std.proofs.lemmas.List.Splits.{join_with_byte-slice_split}
use Rattle.mb_text.proofs.PieceLaws.{first_line, pieces_again}
use Rattle.mb_text.proofs.laws.pieces_are_the_text.Goals as goal

pub returns : goal.returns
returns c = record {
  joined = join_with_byte-slice_split;
  cut = pieces_again;
  first_line = first_line;
}
