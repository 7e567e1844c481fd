use Rattle.std.proofs.Common.{[], ap, drop, length, rules, ◌+◌, ◌++◌, ◌<◌, ◌∙◌, ◌∷◌, ◌≡◌, ◌≤◌}
use Rattle.std.proofs.lemmas.Option.{get_or_from_slice_get}
use Rattle.csv.specs.Writing.{default_writer, field_text}
use Rattle.mb_data.specs.loops.Commas.{with_commas}
use Rattle.mb_data.proofs.WrittenRows.{comma_at, commas_end}
use Rattle.mb_data.proofs.writing.push_factors.Goals as goal

pub loop-factor-preserved : goal.loop-factor-preserved
loop-factor-preserved c =
    let fields = c.args.dataset.now.factors in
    let k = c.loop-factor.factor in
    let front = c.loop-factor.out.items in
    let name = c.factor.result.now in
    let within : k < length fields = search rules in
    let at = get_or_from_slice_get fields k name [] c.factor.ensures in
    let pushed : c.push.new.self.items ≡ (front ++ field_text default_writer name)
    ++ 44 ∷ [] = search rules in
    ap (λ list. list ++ with_commas (drop (k + 1) fields)) pushed
    ∙ comma_at fields k front (c.args.out.now.items ++ with_commas fields) name within at
    c.loop-factor.invariant

pub returns-clause-pushed : goal.returns-clause-pushed
returns-clause-pushed c =
    let fields = c.args.dataset.now.factors in
    let past : length fields ≤ c.loop-factor.factor = search rules in
    commas_end fields c.loop-factor.factor c.loop-factor.out.items
    (c.args.out.now.items ++ with_commas fields) past c.loop-factor.invariant
