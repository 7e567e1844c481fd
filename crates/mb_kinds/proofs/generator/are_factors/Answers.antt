use Rattle.std.proofs.Common.{rules, sym}
use Rattle.mb_kinds.specs.Generators.{is_among}
use Rattle.mb_kinds.proofs.PlacesLeft.{all_later, all_not_here}
use Rattle.mb_kinds.proofs.generator.are_factors.Goals as goal

pub returns-then-not-is_factor : goal.returns-then-not-is_factor
returns-then-not-is_factor c =
    sym (all_not_here (is_among c.args.dataset.now.factors) c.args.names.now c.loop-k.k
    c.name.result.now c.name.ensures (search rules) c.loop-k.invariant)

pub loop-k-preserved : goal.loop-k-preserved
loop-k-preserved c =
    all_later (is_among c.args.dataset.now.factors) c.args.names.now c.loop-k.k
    c.name.result.now c.name.ensures (search rules) c.loop-k.invariant
