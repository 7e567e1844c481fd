use Rattle.std.proofs.Common.{length, take, ◌≡◌}
use Rattle.mb_paths.proofs.copies.copy_moves.Given as goal

abbrev pub invariant-loop-z : goal.invariant-loop-z
invariant-loop-z l = record {
  width : l.copy.width ≡ l.moves.width;
  rows : l.copy.rows ≡ take l.z-index l.z-items;
  wide : length l.entries ≡ l.moves.width;
}
