use Rattle.mb_registry.proofs.BasisTexts.{head_named}
use Rattle.mb_registry.proofs.bodies.basis_in.Goals as goal

pub of-requires : goal.of-requires
of-requires c = head_named c.args.body.now _ _ c.in-Ok.ensures
