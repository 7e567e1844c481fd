-- The lines so far and those of the rows that are left are all.
use Rattle.std.proofs.Common.{drop, ◌++◌, ◌≡◌}
use Rattle.std.specs.List.{flat_map}
use Rattle.mb_registry.proofs.listing.record_list.Given as goal
use Rattle.mb_registry.specs.Listing.{list_text, listed_items}
use Rattle.mb_text.specs.Lines.{line}

abbrev pub invariant-loop-row : goal.invariant-loop-row
invariant-loop-row l =
    l.out.items ++ flat_map (λ row. line (listed_items row)) (drop l.row-index l.fn.listed)
    ≡ list_text l.fn.listed
