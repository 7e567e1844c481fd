use Rattle.std.proofs.Common.{[], ap, arith, drop, get_or, length, rules, ◌+◌, ◌++◌, ◌<◌, ◌∙◌, ◌∷◌, ◌≡◌, ◌≤◌}
use Rattle.std.specs.List.{remove}
use Rattle.std.proofs.lemmas.List.Edits.{length-remove}
use Rattle.mb_data.specs.loops.Keys.{key_of}
use Rattle.mb_data.proofs.AddedLevels.{level_field}
use Rattle.mb_data.proofs.KeyLaws.{key_at, key_whole}
use Rattle.mb_data.proofs.record.record_key.Goals as goal

pub loop-factor-preserved : goal.loop-factor-preserved
loop-factor-preserved c =
    let row = remove c.args.records.now.fields c.args.place in
    let k = c.loop-factor.factor in
    let name : get_or row k [] ≡ c.field.result.now =
    level_field c.args.records.now.fields c.args.place k c.field_of_factor.result
    c.field.result.now c.requires.place c.field_of_factor.ensures c.field.ensures in
    let removed = length-remove c.args.records.now.fields c.args.place c.requires.place in
    let within : k < length row = omega (
      arith,
      removed,
      c.loop-factor-test.true,
      c.len-factor-end.ensures,
    ) in
    let pushed : c.push_name.new.key.items ≡ c.loop-factor.key.items
    ++ (c.field.result.now ++ 255 ∷ []) = search rules in
    ap (λ front. front ++ key_of (drop (k + 1) row)) pushed
    ∙ key_at row k c.loop-factor.key.items c.field.result.now within name c.loop-factor.invariant

pub returns : goal.returns
returns c =
    let row = remove c.args.records.now.fields c.args.place in
    let removed = length-remove c.args.records.now.fields c.args.place c.requires.place in
    let past : length row ≤ c.loop-factor.factor =
    omega (arith, removed, c.loop-factor-test.false, c.len-factor-end.ensures) in
    key_whole row c.loop-factor.factor c.loop-factor.key.items past c.loop-factor.invariant
