use Rattle.mb_tables.proofs.CellSteps.{can_move_back, moved-forth, moved_written, table_written}
use Rattle.mb_tables.proofs.table.Table.take_back.Goals as goal

pub move_counts-requires-clause-each : goal.move_counts-requires-clause-each
move_counts-requires-clause-each c =
    rw c.opposite.ensures
    (can_move_back c.args.sign c.requires.made.0 c.args.self.now c.as_mut_slice.result.now
    c.args.z.now c.parts-lows.result.0.now c.requires.made.2 c.requires.made.1.fits (cc)
    c.requires.cells c.parts-lows.ensures.entries c.parts-lows.ensures.apart
    c.parts-lows.ensures.within)

pub returns : goal.returns
returns c =
    moved-forth c.args.sign _ c.args.z.now c.args.self.now
    (rw (← c.opposite.ensures)
    (moved_written c.opposite.result c.args.self.now c.self.inside.counts.items
    c.as_mut_slice.result.now c.move_counts.new.counts c.args.z.now c.parts-lows.result.0.now
    (cc) (cc) c.requires.cells c.parts-lows.ensures.entries c.move_counts.auto.counts
    c.move_counts.ensures.moved))

pub invariant_of-self : goal.invariant_of-self
invariant_of-self c =
    table_written c.self.inside.counts.items c.as_mut_slice.result.now c.move_counts.new.counts
    c.self.invariant (cc) c.move_counts.auto.counts c.move_counts.ensures.fits
