use Rattle.std.proofs.Common.{length, ◌≡◌}
use Rattle.mb_text.specs.Lines.{items}
use Rattle.mb_text.specs.Plain.{each_of}
use Rattle.mb_text.proofs.EachSteps.{in_front}
use Rattle.mb_text.proofs.plain_lines.read_numbers.Given as goal

abbrev pub invariant-loop-item : goal.invariant-loop-item
invariant-loop-item g l =
    each_of g.N.PlainNumber.of_item (items l.line)
    ≡ in_front l.numbers.items (each_of g.N.PlainNumber.of_item (items l.rest))

abbrev pub decreases-loop-item : goal.decreases-loop-item
decreases-loop-item g l = length l.rest
