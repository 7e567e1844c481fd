use Rattle.std.proofs.Common.{List, [], ap, arith, get_or, length, rules, sym, ℕ, ◌<◌, ◌∙◌, ◌≡◌}
use Rattle.std.specs.List.{remove}
use Rattle.std.proofs.lemmas.List.{get_or_default}
use Rattle.mb_data.specs.Levels.{with_name}
use Rattle.mb_data.proofs.AddedLevels.{all_names, level_field, name_more, no_names}
use Rattle.mb_data.proofs.HeaderSteps.{text_at}
use Rattle.mb_data.proofs.record.add_levels.Goals as goal

pub add_level-requires : goal.add_level-requires
add_level-requires c =
    record {
      text =
          text_at c.args.records.now.fields c.field_of_factor.result c.field.result.now
          c.requires.text c.field.ensures;
    }

pub loop-factor-init : goal.loop-factor-init
loop-factor-init c = no_names c.args.levels.now (remove c.args.records.now.fields c.args.place)

pub loop-factor-preserved : goal.loop-factor-preserved
loop-factor-preserved c =
    let row = remove c.args.records.now.fields c.args.place in
    let k = c.loop-factor.factor in
    let name : get_or row k [] ≡ c.field.result.now =
    level_field c.args.records.now.fields c.args.place k c.field_of_factor.result
    c.field.result.now c.requires.place c.field_of_factor.ensures c.field.ensures in
    let old : get_or c.loop-factor.levels k [] ≡ get_or c.loop-factor.levels k
    c.index-levels-factor.result =
    get_or_default c.loop-factor.levels k [] c.index-levels-factor.result
    (omega (arith, c.loop-factor-test.true, c.loop-factor.auto.levels)) in
    let added : c.add_level.new.names ≡ with_name
    (get_or c.loop-factor.levels k c.index-levels-factor.result)
    c.field.result.now = search rules in
    let within : k < length c.args.levels.now = search rules in
    name_more c.args.levels.now c.loop-factor.levels row k c.add_level.new.names within
    c.loop-factor.invariant
    (added
    ∙ ap (λ (names : List (List ℕ)). with_name names c.field.result.now) (sym old)
    ∙ ap (λ (n : List ℕ). with_name (get_or c.loop-factor.levels k []) n) (sym name))

pub returns : goal.returns
returns c =
    let whole : c.loop-factor.factor ≡ length c.args.levels.now =
    omega (arith, c.loop-factor-test.false, c.loop-factor.auto.factor-end) in
    all_names c.args.levels.now c.loop-factor.levels
    (remove c.args.records.now.fields c.args.place) (rw whole at c.loop-factor.invariant)
