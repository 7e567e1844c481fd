use Rattle.std.proofs.Common.{subst, ◌<◌, ◌^◌, ◌∙◌}
use Rattle.mb_matrix.proofs.Deltas.{key-delta}
use Rattle.mb_matrix.specs.Key.{key_count}
use Rattle.mb_matrix.proofs.keys.Keys.delta.Goals as goal

pub returns : goal.returns
returns c =
    key-delta c.args.self.now c.as_slice.result.now c.args.z.now c.delta_of.result
    (c.as_slice.ensures.value ∙ c.self.view_is)
    (subst (λ l. key_count l < 2 ^ 64) c.self.view_is c.self.invariant.few)
    c.delta_of.ensures.fits c.delta_of.ensures.added
