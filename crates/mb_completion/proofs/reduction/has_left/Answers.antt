use Rattle.std.proofs.Common.{arith, length, ◌<◌}
use Rattle.std.specs.declared.cmp.Ordering.TheVariants.{Equal, Greater, Less}
use Rattle.mb_completion.proofs.KeptPlaces.{compare_at, there}
use Rattle.mb_completion.proofs.reduction.has_left.Goals as goal

pub compare-requires : goal.compare-requires
compare-requires c =
    c.requires.shapes c.index-kept-place.result
    (there c.args.kept.now c.args.place c.index-kept-place.result (let w = c.requires.within in
    grind arith) c.index-kept-place.is)

pub returns-in-Equal-clause-equal : goal.returns-in-Equal-clause-equal
returns-in-Equal-clause-equal c =
    let h : c.args.place < length c.args.kept.now = (let w = c.requires.within in grind arith) in
    let shape =
    c.requires.shapes c.index-kept-place.result
    (there c.args.kept.now c.args.place c.index-kept-place.result h c.index-kept-place.is) in
    compare_at c.args.order c.args.kept.now c.args.place c.index-kept-place.result c.args.left.now
    c.compare.result Equal h c.index-kept-place.is shape c.compare.ensures c.in-Equal.is

pub returns-in-Less-clause-later : goal.returns-in-Less-clause-later
returns-in-Less-clause-later c h =
    let shape =
    c.requires.shapes c.index-kept-place.result
    (there c.args.kept.now c.args.place c.index-kept-place.result h c.index-kept-place.is) in
    absurd (c.requires.above h
    (compare_at c.args.order c.args.kept.now c.args.place c.index-kept-place.result c.args.left.now
    c.compare.result Less h c.index-kept-place.is shape c.compare.ensures c.in-Less.is))

pub returns-in-Greater-clause-later : goal.returns-in-Greater-clause-later
returns-in-Greater-clause-later c h =
    let shape =
    c.requires.shapes c.index-kept-place.result
    (there c.args.kept.now c.args.place c.index-kept-place.result h c.index-kept-place.is) in
    compare_at c.args.order c.args.kept.now c.args.place c.index-kept-place.result c.args.left.now
    c.compare.result Greater h c.index-kept-place.is shape c.compare.ensures c.in-Greater.is
