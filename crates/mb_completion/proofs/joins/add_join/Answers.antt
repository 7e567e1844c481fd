use Rattle.std.proofs.Common.{sym, ◌∙◌}
use Rattle.mb_completion.proofs.MadeJoins.{joins-joined, joins-passed, pair_light}
use Rattle.mb_completion.proofs.joins.add_join.Goals as goal

pub returns-then-not-is_shared : goal.returns-then-not-is_shared
returns-then-not-is_shared c =
    joins-passed c.args.rules.now.rules c.args.i c.args.j c.args.joins.now.items
    (sym c.is_shared.ensures ∙ c.if-not-is_shared.true) c.requires.so_far

pub join-requires-clause-light : goal.join-requires-clause-light
join-requires-clause-light c =
    pair_light c.args.rules.now.matrix c.args.rules.now.rules c.args.i c.args.j c.requires.peaks
    c.requires.first c.requires.second (sym c.is_shared.ensures ∙ c.if-not-is_shared.false)

pub returns : goal.returns
returns c =
    joins-joined c.args.rules.now.rules c.args.i c.args.j c.args.joins.now.items
    c.push.new.self.items c.in_ok-join.field-0
    (sym c.is_shared.ensures ∙ c.if-not-is_shared.false) c.in_ok-join.ensures.low
    c.in_ok-join.ensures.high c.in_ok-join.ensures.normal c.in_ok-join.ensures.sound
    c.in_ok-push.ensures.items c.requires.so_far
