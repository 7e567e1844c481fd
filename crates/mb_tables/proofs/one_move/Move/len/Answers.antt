use Rattle.mb_tables.proofs.PartLaws.{cells-seen}
use Rattle.mb_tables.proofs.one_move.Move.len.Goals as goal

pub returns-clause-cells : goal.returns-clause-cells
returns-clause-cells c =
    cells-seen c.self.inside.cells c.self.inside.parts.items c.args.self.now c.self.view_is
