use Rattle.std.proofs.Common.{ap, reverse, subst, ◌<◌, ◌^◌, ◌∙◌}
use Rattle.mb_matrix.proofs.Deltas.{rank-delta}
use Rattle.mb_matrix.proofs.Ranks.{few-reverse}
use Rattle.mb_matrix.specs.Key.{key_count}
use Rattle.mb_matrix.proofs.keys.Keys.rank_delta.Goals as goal

pub delta_of-requires-clause-few : goal.delta_of-requires-clause-few
delta_of-requires-clause-few c =
    few-reverse c.args.self.now c.as_slice.result.now
    (c.as_slice.ensures.value ∙ c.self.invariant.turned ∙ ap (λ l. reverse l) c.self.view_is)
    (subst (λ l. key_count l < 2 ^ 64) c.self.view_is c.self.invariant.few)

pub returns : goal.returns
returns c =
    rank-delta c.args.self.now c.as_slice.result.now c.args.z.now c.delta_of.result
    (c.as_slice.ensures.value ∙ c.self.invariant.turned ∙ ap (λ l. reverse l) c.self.view_is)
    (subst (λ l. key_count l < 2 ^ 64) c.self.view_is c.self.invariant.few)
    c.delta_of.ensures.fits c.delta_of.ensures.added
