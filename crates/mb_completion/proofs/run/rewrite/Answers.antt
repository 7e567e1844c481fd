use Rattle.std.proofs.Common.{ap, arith}
use Rattle.mb_completion.proofs.run.rewrite.Goals as goal
use Rattle.mb_rules.proofs.RulesInCode.{kept_weight, made_small, same_list}
use Rattle.mb_rules.specs.Sides.{sides}
use Rattle.mb_tables.specs.Vectors.{at}

pub rewrite-requires-clause-small : goal.rewrite-requires-clause-small
rewrite-requires-clause-small c =
    made_small c.args.rules.now c.get-rule.ensures.sound c.args.k
    (sides c.get-rule.result.now) c.args.m.now.list
    c.get-rule.ensures.rule c.requires.shape.symbols c.requires.light

pub returns-clause-weight : goal.returns-clause-weight
returns-clause-weight c =
    kept_weight c.args.rules.now c.get-rule.ensures.sound c.args.k
    (sides c.get-rule.result.now) c.args.m.now.list
    c.get-rule.ensures.rule c.requires.shape.symbols c.rewrite.result c.rewrite.new.self.list
    c.rewrite.ensures.divides
    c.rewrite.ensures.made
    (same_list c.rewrite.result c.rewrite.new.self c.args.m.now c.rewrite.ensures.kept)

pub returns-clause-light : goal.returns-clause-light
returns-clause-light c i =
    let e = ap (λ u. at u i) (returns-clause-weight c) in
    let l = c.requires.light i in
    omega arith
