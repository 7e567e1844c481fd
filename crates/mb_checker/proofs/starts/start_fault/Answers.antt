use Rattle.mb_checker.proofs.LightStarts.{cell-is-light, column-is-light}
use Rattle.mb_checker.proofs.starts.start_fault.Goals as goal

pub ends_fault-requires-clause-a_light : goal.ends_fault-requires-clause-a_light
ends_fault-requires-clause-a_light c =
    column-is-light c.args.certificate.now.matrix c.matrix.result.now c.args.cell
    c.in_ok-first.first.list c.matrix.ensures.matrix (c.matrix.ensures.sound).design
    c.requires.cell c.in_ok-first.ensures.list

pub ends_fault-requires-clause-b_light : goal.ends_fault-requires-clause-b_light
ends_fault-requires-clause-b_light c =
    cell-is-light c.args.certificate.now.matrix c.matrix-2.result.now c.args.cell
    c.in_ok-second.second.list c.matrix-2.ensures.matrix (c.matrix-2.ensures.sound).design
    c.requires.cell c.in_ok-second.ensures.list
