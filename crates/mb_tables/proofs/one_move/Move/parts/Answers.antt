use Rattle.mb_tables.proofs.PartLaws.{parts-seen, within-seen}
use Rattle.mb_tables.proofs.one_move.Move.parts.Goals as goal

pub returns-clause-entries : goal.returns-clause-entries
returns-clause-entries c =
    parts-seen c.self.inside.cells c.self.inside.parts.items c.as_slice.result.now c.args.self.now
    c.self.view_is c.as_slice.ensures.value

pub returns-clause-within : goal.returns-clause-within
returns-clause-within c =
    within-seen c.self.inside.cells c.self.inside.parts.items c.as_slice.result.now c.args.self.now
    c.self.view_is c.as_slice.ensures.value c.self.invariant.within
