use Rattle.std.proofs.Common.{All, length, ◌++◌, ◌-◌, ◌<◌, ◌≡◌}
use Rattle.mb_matrix.specs.Peel.{peel_from, peel_of}
use Rattle.mb_matrix.proofs.peel.Peel.of.Given as goal

abbrev pub invariant-loop : goal.invariant-loop
invariant-loop l = record {
  so_far : l.steps.items ++ peel_from l.matrix (l.cells - l.counter) l.left.items
      ≡ peel_of l.matrix;
  cells : All (λ cell. cell < length l.matrix.columns) l.left.items;
}
