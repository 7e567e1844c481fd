use Rattle.std.proofs.Common.{[], ap, arith, drop, get_or, length, rules, ◌+◌, ◌++◌, ◌<◌, ◌∙◌, ◌∷◌, ◌≡◌, ◌≤◌, Some, slice_get, List, ℕ}
use Rattle.std.proofs.lemmas.Option.{get_or_from_slice_get, gets}
use Rattle.mb_data.specs.CrossTable.{combination, named, sizes}
use Rattle.mb_data.specs.loops.Keys.{key_of}
use Rattle.mb_data.proofs.CombinationNames.{each_named, named_at}
use Rattle.mb_data.proofs.KeyLaws.{key_at, key_whole}
use Rattle.mb_data.proofs.filling.make_key.Goals as goal

pub loop-factor-preserved : goal.loop-factor-preserved
loop-factor-preserved c =
    let levels = c.args.levels.now in
    let k = c.loop-factor.factor in
    let places = combination (sizes levels) c.args.number in
    let within : k < length levels = search rules in
    let all = each_named levels c.args.number in
    let there : k < length (named levels places) = omega (arith, within, all) in
    let names : slice_get levels k ≡ Some c.index-levels-factor.result = search (rules, gets) in
    let at : slice_get (get_or levels k []) c.level_of.result ≡ Some c.name-name.result.now =
    ap (λ (list : List (List ℕ)). slice_get list c.level_of.result)
    (get_or_from_slice_get levels k c.index-levels-factor.result [] names) ∙ c.name-name.ensures in
    let name = named_at levels places k c.level_of.result c.name-name.result.now within
    c.level_of.ensures.level at in
    let pushed : c.push_name.new.key.items ≡ c.loop-factor.key.items
    ++ (c.name-name.result.now ++ 255 ∷ []) = search rules in
    ap (λ front. front ++ key_of (drop (k + 1) (named levels places))) pushed
    ∙ key_at (named levels places) k c.loop-factor.key.items c.name-name.result.now there name
    c.loop-factor.invariant

pub returns : goal.returns
returns c =
    let levels = c.args.levels.now in
    let names = named levels (combination (sizes levels) c.args.number) in
    let all = each_named levels c.args.number in
    let end : length levels ≤ c.loop-factor.factor = search rules in
    let past : length names ≤ c.loop-factor.factor = omega (arith, all, end) in
    key_whole names c.loop-factor.factor c.loop-factor.key.items past c.loop-factor.invariant
