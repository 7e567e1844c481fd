use Rattle.std.proofs.Common.{drop, ◌<◌, ◌≡◌}
use Rattle.mb_data.specs.CrossTable.{combinations}
use Rattle.mb_kinds.specs.Generators.{sizes_of}
use Rattle.mb_kinds.proofs.Levels.{same}
use Rattle.mb_kinds.proofs.margins.has_levels.Given as goal

abbrev pub invariant-loop-factor : goal.invariant-loop-factor
invariant-loop-factor l = record {
  size : l.size ≡ combinations (sizes_of l.dataset.levels (drop l.factor-index l.factors));
  left : l.left < l.size;
  same : same l.dataset.levels l.factors l.number l.cell
      ≡ same l.dataset.levels (drop l.factor-index l.factors) l.left l.cell;
}
