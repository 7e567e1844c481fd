use Rattle.std.proofs.Common.{replicate, rules, subst, ◌≡◌}
use Rattle.mb_keyed.proofs.CacheSteps.{In-none, In-zeros}
use Rattle.mb_keyed.proofs.cache.wide_words.Goals as goal
use Rattle.mb_tables.specs.Lists.{In}

pub returns-in-Ok : goal.returns-in-Ok
returns-in-Ok c key i =
    let zeros : c.in-Ok.zeros.items ≡ replicate c.args.words 0 = search rules in
    In-zeros c.args.words key (subst (In key) zeros i)

pub returns-in-Err : goal.returns-in-Err
returns-in-Err c key i = In-none key (subst (In key) c.new.ensures.items i)
