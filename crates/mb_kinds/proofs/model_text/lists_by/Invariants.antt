use Rattle.std.proofs.Common.{drop, ◌≡◌}
use Rattle.mb_kinds.specs.ModelText.{items_by, list_in, text_in}
use Rattle.mb_kinds.specs.loops.Gathered.{gathered}
use Rattle.mb_kinds.proofs.model_text.lists_by.Given as goal
use Rattle.toml.specs.View.{items_view}

abbrev pub invariant-loop-k : goal.invariant-loop-k
invariant-loop-k l =
    items_by (list_in l.key (text_in l.key)) (items_view l.items.items)
    ≡ gathered l.lists.items (items_by (list_in l.key (text_in l.key))
    (items_view (drop l.k l.items.items)))
