use Rattle.mb_matrix.proofs.ListedTables.{listed_whole}
use Rattle.mb_matrix.specs.Matrix.{margins_of}
use Rattle.mb_matrix.proofs.listing.plain_fiber.Goals as goal

pub returns : goal.returns
returns c =
    listed_whole c.args.matrix.now.columns c.as_slice.result.now c.in_ok-left.left.items
    (margins_of c.args.matrix.now c.args.table.now) c.new-found.result.items
    c.add_tables.new.found.items c.new-found.ensures.items c.as_slice.ensures.value
    c.in_ok-left.ensures.margins c.in_ok-add_tables.ensures
