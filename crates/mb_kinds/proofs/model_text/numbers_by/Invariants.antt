use Rattle.std.proofs.Common.{drop, ◌≡◌}
use Rattle.mb_kinds.specs.ModelText.{items_by, number_in}
use Rattle.mb_kinds.specs.loops.Gathered.{gathered}
use Rattle.mb_kinds.proofs.model_text.numbers_by.Given as goal
use Rattle.toml.specs.View.{items_view}

abbrev pub invariant-loop-k : goal.invariant-loop-k
invariant-loop-k l =
    items_by (number_in l.key l.lowest l.highest) (items_view l.items.items)
    ≡ gathered l.numbers.items (items_by (number_in l.key l.lowest l.highest)
    (items_view (drop l.k l.items.items)))
