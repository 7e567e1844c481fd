use Rattle.mb_completion.proofs.MadeParts.{start_light}
use Rattle.mb_completion.proofs.starts.start.Goals as goal

pub trace_of-requires-clause-light : goal.trace_of-requires-clause-light
trace_of-requires-clause-light c =
    (start_light c.args.rules.now c.matrix.result.now c.args.cell c.in_ok-first.first
    c.len-rules.ensures.sound c.requires c.matrix.ensures c.in_ok-first.ensures.sides).0

pub trace_of-requires-2-clause-light : goal.trace_of-requires-2-clause-light
trace_of-requires-2-clause-light c =
    (start_light c.args.rules.now c.matrix.result.now c.args.cell c.in_ok-first.first
    c.len-rules.ensures.sound c.requires c.matrix.ensures c.in_ok-first.ensures.sides).1
