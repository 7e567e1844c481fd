use Rattle.std.proofs.Common.{drop, map, string_bytes, ◌++◌, ◌≡◌}
use Rattle.sqlite.specs.Order.{column}
use Rattle.sqlite.specs.declared.types.Value.TheVariants.{Text as SqlText}
use Rattle.mb_keeper.proofs.table.texts_of.Given as goal

-- the texts so far and those that are left
abbrev pub invariant-loop-row : goal.invariant-loop-row
invariant-loop-row l =
    map (λ name. SqlText (string_bytes name)) l.names.items
    ++ map (λ row. column row 0) (drop l.row-index l.rows) ≡ map (λ row. column row 0) l.rows
