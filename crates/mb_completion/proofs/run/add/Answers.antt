use Rattle.std.proofs.Common.{inr, refl, sym}
use Rattle.std.specs.declared.cmp.Ordering.TheVariants.{Equal, Greater, Less}
use Rattle.mb_completion.proofs.LookSteps.{born_none, born_pushed, born_valid, compared, turned}
use Rattle.mb_completion.proofs.run.add.Goals as goal

pub push-requires-clause-valid : goal.push-requires-clause-valid
push-requires-clause-valid c =
    let e = compared c.args.rules.now c.order.result c.args.p c.args.q c.compare.result Greater
    c.order.ensures c.requires.first c.compare.ensures c.in-Greater.is in
    born_valid c.args.rules.now c.len-rules.ensures.sound c.args.p c.args.q c.requires.first
    c.requires.second c.requires.weight e

pub push-requires-in-Less-clause-valid : goal.push-requires-in-Less-clause-valid
push-requires-in-Less-clause-valid c =
    let e = compared c.args.rules.now c.order.result c.args.p c.args.q c.compare.result Less
    c.order.ensures c.requires.first c.compare.ensures c.in-Less.is in
    born_valid c.args.rules.now c.len-rules.ensures.sound c.args.q c.args.p c.requires.second
    c.requires.first (sym c.requires.weight)
    (turned c.args.rules.now c.len-rules.ensures.sound c.args.p.list c.args.q.list e)

pub returns-in-Equal-clause-born : goal.returns-in-Equal-clause-born
returns-in-Equal-clause-born c =
    let e = compared c.args.rules.now c.order.result c.args.p c.args.q c.compare.result Equal
    c.order.ensures c.requires.first c.compare.ensures c.in-Equal.is in
    born_none c.args.rules.now c.len-rules.ensures.sound c.args.p c.args.q c.requires.first
    c.requires.second e

pub returns-in-Less-clause-born : goal.returns-in-Less-clause-born
returns-in-Less-clause-born c =
    let e = compared c.args.rules.now c.order.result c.args.p c.args.q c.compare.result Less
    c.order.ensures c.requires.first c.compare.ensures c.in-Less.is in
    born_pushed c.args.rules.now c.args.p.list c.args.q.list
    (c.args.q.list, c.args.p.list) c.push-in-Less.result c.push-in-Less.new.self
    c.push-in-Less.ensures.added
    (inr (inr
    (turned c.args.rules.now c.len-rules.ensures.sound c.args.p.list c.args.q.list e, refl)))
