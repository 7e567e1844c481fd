use Rattle.mb_rings.proofs.SearchSteps.{met}
use Rattle.mb_rings.proofs.visited.Visited.contains.Goals as goal

pub returns : goal.returns
returns c =
    met c.contains.result c.self.inside.tables.keys c.args.self.now c.args.table.now c.self.view_is
    c.contains.ensures
