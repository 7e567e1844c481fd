use Rattle.std.proofs.Common.{length, take, ◌≡◌, ◌≤◌}
use Rattle.std.specs.List.{flat_map}
use Rattle.mb_kinds.specs.Generators.{margin_rows}
use Rattle.mb_kinds.specs.loops.Placed.{end_to_end}
use Rattle.mb_kinds.proofs.margins.all_rows.Given as goal

abbrev pub invariant-loop-generator : goal.invariant-loop-generator
invariant-loop-generator l = record {
  rows : l.entries.items
      ≡ end_to_end (flat_map (margin_rows l.dataset) (take l.generator-index l.generators));
  size : l.count ≡ length (flat_map (margin_rows l.dataset) (take l.generator-index l.generators));
  few : l.count ≤ 64;
}
