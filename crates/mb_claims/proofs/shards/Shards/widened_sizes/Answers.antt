use Rattle.std.proofs.Common.{List, ap, length, map, max, rules, subst, sym, ℕ, ◌∙◌, ◌≤◌}
use Rattle.std.proofs.lemmas.List.{take_all}
use Rattle.mb_claims.proofs.Growing.{widened_fit}
use Rattle.mb_claims.specs.loops.Parts.{AreSizes}
use Rattle.mb_claims.proofs.shards.Shards.widened_sizes.Goals as goal

pub returns-clause-fit : goal.returns-clause-fit
returns-clause-fit c =
    let old : List ℕ = c.args.self.now.sizes in
    let ends : length old ≤ c.loop-size.size-index = search rules in
    let fit : AreSizes old = search rules in
    subst (λ (l : List ℕ). AreSizes l)
    (sym (c.loop-size.invariant
    ∙ ap (map (max c.args.words)) (take_all c.loop-size.size-index old ends)))
    (widened_fit c.args.words old c.requires fit)
