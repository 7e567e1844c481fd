use Rattle.std.proofs.Common.{List, ℕ, map, rules, sym, subst, ◌≡◌}
use Rattle.mb_kinds.specs.Generators.{factors_named}
use Rattle.mb_kinds.specs.loops.Placed.{ArePlaced}
use Rattle.mb_kinds.proofs.Placing.{all_placed}
use Rattle.mb_kinds.proofs.hierarchical.named_model.Goals as goal

pub margins_model-requires-clause-placed : goal.margins_model-requires-clause-placed
margins_model-requires-clause-placed c =
    let is : c.as_slice.result.now ≡ map (factors_named c.args.dataset.now.factors)
    c.args.generators.now = search rules in
    subst (λ (list : List (List ℕ)). ArePlaced c.args.dataset.now list) (sym is)
    (all_placed c.args.dataset.now c.args.generators.now)
