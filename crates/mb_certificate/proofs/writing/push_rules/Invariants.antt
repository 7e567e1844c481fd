use Rattle.std.proofs.Common.{take, ◌++◌, ◌≡◌}
use Rattle.std.specs.List.{flat_map}
use Rattle.mb_certificate.specs.Sides.{sides}
use Rattle.mb_certificate.specs.Written.{rule_items}
use Rattle.mb_text.specs.Lines.{line}
use Rattle.mb_certificate.proofs.writing.push_rules.Given as goal

abbrev pub invariant-loop-pair : goal.invariant-loop-pair
invariant-loop-pair l =
    l.out.items
    ≡ l.initial.out.items
    ++ flat_map (λ p. line (rule_items (sides p))) (take l.pair-index l.rules)
