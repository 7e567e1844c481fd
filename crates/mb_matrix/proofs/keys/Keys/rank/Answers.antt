use Rattle.std.proofs.Common.{ap, reverse, subst, ◌<◌, ◌^◌, ◌∙◌}
use Rattle.mb_matrix.proofs.Ranks.{few-reverse, key_count-reverse}
use Rattle.mb_matrix.specs.Key.{key_count}
use Rattle.mb_matrix.proofs.keys.Keys.rank.Goals as goal

pub number_of-requires-clause-few : goal.number_of-requires-clause-few
number_of-requires-clause-few c =
    few-reverse c.args.self.now c.as_slice.result.now
    (c.as_slice.ensures.value ∙ c.self.invariant.turned ∙ ap (λ l. reverse l) c.self.view_is)
    (subst (λ l. key_count l < 2 ^ 64) c.self.view_is c.self.invariant.few)

pub returns-clause-below : goal.returns-clause-below
returns-clause-below c =
    let turned =
    c.as_slice.ensures.value ∙ c.self.invariant.turned ∙ ap (λ l. reverse l) c.self.view_is in
    subst (λ n. c.number_of.result < n) (ap key_count turned ∙ key_count-reverse c.args.self.now)
    c.number_of.ensures.below
