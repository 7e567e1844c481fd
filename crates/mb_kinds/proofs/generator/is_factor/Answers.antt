use Rattle.std.proofs.Common.{rules, sym}
use Rattle.std.specs.Str.{bytes_eq}
use Rattle.mb_kinds.proofs.PlacesLeft.{any_here, any_later}
use Rattle.mb_kinds.proofs.generator.is_factor.Goals as goal

pub returns-then-eq : goal.returns-then-eq
returns-then-eq c =
    sym (any_here (bytes_eq c.args.name.now) c.args.dataset.now.factors c.loop-k.k
    c.factor.result.now c.factor.ensures (search rules) c.loop-k.invariant)

pub loop-k-preserved : goal.loop-k-preserved
loop-k-preserved c =
    any_later (bytes_eq c.args.name.now) c.args.dataset.now.factors c.loop-k.k
    c.factor.result.now c.factor.ensures (search rules) c.loop-k.invariant
