use Rattle.std.proofs.Common.{refl}
use Rattle.mb_rules.proofs.RulesInCode.{kept_weight, made_small, refused, same_list, stepped}
use Rattle.mb_rules.proofs.rules.Rules.step.Goals as goal
use Rattle.mb_rules.specs.Sides.{sides}

pub rewrite-requires-clause-small : goal.rewrite-requires-clause-small
rewrite-requires-clause-small c =
    made_small c.args.self.now c.get-rule.ensures.sound c.args.k
    (sides c.get-rule.result.now) c.args.m.now.list
    c.get-rule.ensures.rule c.requires.shape.symbols c.requires.light

pub returns-clause-stepped : goal.returns-clause-stepped
returns-clause-stepped c =
    stepped c.args.self.now c.get-rule.ensures.sound c.args.k
    (sides c.get-rule.result.now) c.args.m.now.list
    c.get-rule.ensures.rule c.requires.shape.symbols c.rewrite.result c.rewrite.result
    c.rewrite.new.self.list
    c.rewrite.ensures.divides refl c.rewrite.ensures.made

pub returns-clause-refused : goal.returns-clause-refused
returns-clause-refused c =
    refused c.args.self.now c.get-rule.ensures.sound c.args.k
    (sides c.get-rule.result.now) c.args.m.now.list
    c.get-rule.ensures.rule c.requires.shape.symbols c.rewrite.result c.rewrite.ensures.divides

pub returns-clause-weight : goal.returns-clause-weight
returns-clause-weight c =
    kept_weight c.args.self.now c.get-rule.ensures.sound c.args.k
    (sides c.get-rule.result.now) c.args.m.now.list
    c.get-rule.ensures.rule c.requires.shape.symbols c.rewrite.result c.rewrite.new.self.list
    c.rewrite.ensures.divides
    c.rewrite.ensures.made
    (same_list c.rewrite.result c.rewrite.new.self c.args.m.now c.rewrite.ensures.kept)
