use Rattle.std.proofs.Common.{Global, Ok, Vec, option_map, rules, ◌∙◌, ◌≡◌, ℕ}
use Rattle.mb_kinds.specs.Generators.{base_for}
use Rattle.mb_kinds.proofs.Chains.{base_length}
use Rattle.mb_kinds.proofs.matrix_file.file_model.Goals as goal

pub model_on-requires-clause-base : goal.model_on-requires-clause-base
model_on-requires-clause-base c =
    let given = option_map (λ (v : Vec ℕ Global). v.items) c.args.given in
    let has : base_for c.cells-cells.result given ≡ Ok c.as_slice-2.result.now = search rules in
    let same : c.cells-cells.result ≡ c.width-width.result = search rules in
    base_length c.cells-cells.result given c.as_slice-2.result.now has ∙ same
