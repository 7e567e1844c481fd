use Rattle.std.proofs.Common.{drop, ◌*◌, ◌≡◌, ◌≤◌}
use Rattle.mb_data.specs.CrossTable.{combinations}
use Rattle.mb_kinds.specs.Generators.{sizes_of}
use Rattle.mb_kinds.proofs.margins.margin_size.Given as goal

abbrev pub invariant-loop-factor : goal.invariant-loop-factor
invariant-loop-factor l = record {
  total : l.count * combinations (sizes_of l.dataset.levels (drop l.factor-index l.factors))
      ≡ combinations (sizes_of l.dataset.levels l.factors);
  some : 1 ≤ l.count;
  few : l.count ≤ 64;
}
