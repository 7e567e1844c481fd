use Rattle.std.proofs.Common.{[], ap, arith, drop, length, rules, ◌+◌, ◌++◌, ◌<◌, ◌∙◌, ◌∷◌, ◌≡◌, ◌≤◌}
use Rattle.csv.specs.Writing.{default_writer, field_text}
use Rattle.mb_data.specs.CrossTable.{combination, named, sizes}
use Rattle.mb_data.specs.loops.Commas.{with_commas}
use Rattle.mb_data.proofs.CombinationNames.{each_named, named_at}
use Rattle.mb_data.proofs.WrittenRows.{comma_at, commas_end}
use Rattle.mb_data.proofs.writing.push_levels.Goals as goal

pub loop-factor-preserved : goal.loop-factor-preserved
loop-factor-preserved c =
    let levels = c.args.dataset.now.levels in
    let places = combination (sizes levels) c.args.number in
    let fields = named levels places in
    let k = c.loop-factor.factor in
    let front = c.loop-factor.out.items in
    let name = c.level-name.result.now in
    let same = c.factors-factor-end.ensures.sound.each_factor in
    let inside : k < length c.args.dataset.now.factors = search rules in
    let below : k < length levels = omega (arith, inside, same) in
    let within : k < length fields = omega (arith, below, each_named levels c.args.number) in
    let at = named_at levels places k c.level_in.result name below c.level_in.ensures.level
    c.level-name.ensures in
    let pushed : c.push.new.self.items ≡ (front ++ field_text default_writer name)
    ++ 44 ∷ [] = search rules in
    ap (λ list. list ++ with_commas (drop (k + 1) fields)) pushed
    ∙ comma_at fields k front (c.args.out.now.items ++ with_commas fields) name within at
    c.loop-factor.invariant

pub returns-clause-pushed : goal.returns-clause-pushed
returns-clause-pushed c =
    let levels = c.args.dataset.now.levels in
    let fields = named levels (combination (sizes levels) c.args.number) in
    let same = c.factors-factor-end.ensures.sound.each_factor in
    let end : length c.args.dataset.now.factors ≤ c.loop-factor.factor = search rules in
    let past : length fields ≤ c.loop-factor.factor =
    omega (arith, end, same, each_named levels c.args.number) in
    commas_end fields c.loop-factor.factor c.loop-factor.out.items
    (c.args.out.now.items ++ with_commas fields) past c.loop-factor.invariant

pub returns-clause-some : goal.returns-clause-some
returns-clause-some c =
    let sound = c.factors-factor-end.ensures.sound in
    omega (
      arith,
      sound.each_factor,
      sound.some_factors,
      each_named c.args.dataset.now.levels c.args.number,
    )
