use Rattle.mb_rings.proofs.SearchSteps.{kept-new}
use Rattle.mb_rings.proofs.visited.Visited.insert.Goals as goal

pub returns-clause-added : goal.returns-clause-added
returns-clause-added c =
    kept-new c.in_ok-insert.field-0 c.self.inside.tables.keys c.args.self.now
    c.insert.new.self.keys c.args.table c.self.view_is c.in_ok-insert.ensures.added
    c.in_ok-insert.ensures.keys c.requires.new
