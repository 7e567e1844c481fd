use Rattle.mb_rings.proofs.TakenTables.{taken-more, taken-none}
use Rattle.mb_rings.proofs.visited.Visited.take_new.Goals as goal

pub loop-table-init : goal.loop-table-init
loop-table-init c = taken-none c.args.self.now c.args.next.now.items

pub loop-table-preserved : goal.loop-table-preserved
loop-table-preserved c =
    taken-more c.loop-table.yielded c.in-Some.table c.args.self.now c.loop-table.self
    c.take_one.new.self c.args.next.now.items c.loop-table.next.items c.take_one.new.next.items
    c.loop-table.invariant c.in_ok-take_one.ensures
