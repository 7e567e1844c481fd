use Rattle.std.proofs.Common.{take, ◌++◌, ◌≡◌}
use Rattle.std.specs.List.{flat_map}
use Rattle.mb_text.specs.Lines.{line}
use Rattle.mb_certificate.proofs.writing.push_parts.Given as goal

abbrev pub invariant-loop-part : goal.invariant-loop-part
invariant-loop-part g l =
    l.out.items
    ≡ l.initial.out.items
    ++ flat_map (λ p. line (g.P.Part.to_items p)) (take l.part-index l.parts)
