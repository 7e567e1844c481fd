use Rattle.std.proofs.Common.{arith}
use Rattle.std.proofs.lemmas.Bool.Decides.{nat_tests}
use Rattle.mb_text.proofs.PieceSteps.{pieces_more, pieces_one}
use Rattle.mb_text.proofs.pieces.next_piece.Goals as goal

pub returns-then-place-text-clause-cut : goal.returns-then-place-text-clause-cut
returns-then-place-text-clause-cut c =
    pieces_one c.args.byte c.args.text.now (grind (arith, nat_tests))

pub returns-clause-cut : goal.returns-clause-cut
returns-clause-cut c =
    rw (c.split_at.ensures.front, c.split_at-2.ensures.back, c.split_at.ensures.back)
    (pieces_more c.args.byte _ c.args.text.now c.place_of-place.ensures.count
    (grind (arith, nat_tests)))
