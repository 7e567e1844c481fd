use Rattle.std.proofs.Common.{arith, length}
use Rattle.std.proofs.lemmas.Grind.{common_steps}
use Rattle.std.proofs.lemmas.Option.{slice_get_read}
use Rattle.mb_rules.proofs.rules.Rules.get.Goals as goal

pub returns-clause-shape : goal.returns-clause-shape
returns-clause-shape c =
    rw (← c.self.view_is)
    (c.self.invariant.suited c.args.k c.index.result.now
    (slice_get_read c.self.inside.rules.items
    (length c.self.inside.rules.items) c.args.k c.index.result.now (grind arith)
    (grind (arith, common_steps)) c.index.ensures))
