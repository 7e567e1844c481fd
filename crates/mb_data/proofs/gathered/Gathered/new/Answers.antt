use Rattle.std.proofs.Common.{[], arith, replicate, ◌∙◌, ◌≡◌, ap}
use Rattle.mb_data.proofs.GatheredRows.{gathers_none}
use Rattle.mb_data.proofs.gathered.Gathered.new.Goals as goal

pub returns : goal.returns
returns c =
    let all : c.loop.counter ≡ c.args.factors =
    omega (arith, c.loop-test.false, c.loop.auto.counter-end) in
    gathers_none c.args.factors c.loop.levels.items _
    (c.loop.invariant ∙ ap (λ n. replicate n []) all)
    c.new-2.ensures
