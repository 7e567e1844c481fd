use Rattle.std.proofs.Common.{arith, eqb, sym}
use Rattle.std.proofs.lemmas.Bool.{eq-eqb}
use Rattle.std.proofs.lemmas.List.Sums.{position_or_len_is}
use Rattle.mb_text.proofs.pieces.place_of.Goals as goal

pub returns-then-b-byte-clause-count : goal.returns-then-b-byte-clause-count
returns-then-b-byte-clause-count c =
    sym (position_or_len_is (λ b. eqb b c.args.byte) c.args.text.now c.loop-place.place 0
    (omega arith) c.loop-place.invariant (λ _. eq-eqb _ _ cc))

pub returns-clause-count : goal.returns-clause-count
returns-clause-count c =
    sym (position_or_len_is (λ b. eqb b c.args.byte) c.args.text.now _ 0 (omega arith)
    (λ k l. c.loop-place.invariant k (omega arith)) (λ l. absurd (omega arith)))
