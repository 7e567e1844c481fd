use Rattle.std.proofs.Common.{[], get_or, pos, ℕ, ◌<◌, ◌≡◌}
use Rattle.mb_tables.specs.Margin.{move_margin}
use Rattle.mb_moves.proofs.kernel.is_move_of.Given as goal

abbrev pub invariant-loop-i : goal.invariant-loop-i
invariant-loop-i l =
    (k : ℕ) → k < l.i → move_margin (get_or l.grid.rows k []) l.move_entries ≡ pos 0
