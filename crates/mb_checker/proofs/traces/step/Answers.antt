use Rattle.std.proofs.Common.{refl}
use Rattle.mb_certificate.specs.Sides.{sides}
use Rattle.mb_checker.proofs.LightSteps.{kept-light, made-small}
use Rattle.mb_checker.proofs.traces.step.Goals as goal

pub rewrite-requires-clause-small : goal.rewrite-requires-clause-small
rewrite-requires-clause-small c =
    let parts = c.args.certificate.now in
    let design = (c.rule_at.ensures.sound).design in
    made-small parts.matrix parts.order parts.rules design c.requires.valid c.args.k
    (sides c.in-Some.rule.now) c.args.m.now.list c.in-Some.ensures.found c.requires.shape.symbols
    c.requires.light

pub returns-in-Some-clause-light : goal.returns-in-Some-clause-light
returns-in-Some-clause-light c =
    let parts = c.args.certificate.now in
    let design = (c.rule_at.ensures.sound).design in
    kept-light parts.matrix parts.order parts.rules design c.requires.valid c.args.k
    (sides c.in-Some.rule.now) c.args.m.now.list c.in-Some.ensures.found c.requires.shape.symbols
    c.rewrite.result c.rewrite.new.self c.args.m.now refl c.rewrite.ensures.divides
    c.rewrite.ensures.made c.rewrite.ensures.kept c.requires.light
