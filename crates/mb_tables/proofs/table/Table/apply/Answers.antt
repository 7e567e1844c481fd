use Rattle.mb_tables.proofs.CellSteps.{each_again, moved_written, none_moved, table_written}
use Rattle.mb_tables.proofs.table.Table.apply.Goals as goal

pub returns-then-not-can_move-clause-refused : goal.returns-then-not-can_move-clause-refused
returns-then-not-can_move-clause-refused c v h fits =
    none_moved c.args.sign c.args.self.now c.as_slice.result.now c.args.z.now
    c.parts-lows.result.0.now (cc) c.requires c.parts-lows.ensures.entries
    c.parts-lows.ensures.apart c.parts-lows.ensures.within c.if-not-can_move.ensures.not_some
    v h fits

pub move_counts-requires-clause-each : goal.move_counts-requires-clause-each
move_counts-requires-clause-each c =
    each_again c.args.sign c.as_slice.result.now c.as_mut_slice.result.now
    c.parts-lows.result.0.now (cc) c.if-not-can_move.ensures.each

pub returns-clause-moved : goal.returns-clause-moved
returns-clause-moved c =
    moved_written c.args.sign c.args.self.now c.self.inside.counts.items c.as_mut_slice.result.now
    c.move_counts.new.counts c.args.z.now c.parts-lows.result.0.now (cc) (cc)
    c.requires c.parts-lows.ensures.entries c.move_counts.auto.counts c.move_counts.ensures.moved

pub invariant_of-self : goal.invariant_of-self
invariant_of-self c =
    table_written c.self.inside.counts.items c.as_mut_slice.result.now c.move_counts.new.counts
    c.self.invariant (cc) c.move_counts.auto.counts c.move_counts.ensures.fits
