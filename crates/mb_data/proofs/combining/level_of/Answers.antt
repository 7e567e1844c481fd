use Rattle.std.proofs.Common.{[], arith, get_or, length, refl, rules, ◌%◌, ◌<◌, ◌∙◌, ◌≡◌}
use Rattle.std.proofs.lemmas.List.{get_or-map, length-map}
use Rattle.mb_data.specs.CrossTable.{sizes}
use Rattle.mb_data.proofs.LevelDigits.{digit_is, size_there}
use Rattle.mb_data.proofs.combining.level_of.Goals as goal

pub nonzero_rem-result : goal.nonzero_rem-result
nonzero_rem-result c =
    let list = sizes c.args.levels.now in
    let within : c.args.factor < length list = search (rules, length-map) in
    let size : c.len.result ≡ get_or list c.args.factor 0 = search (rules, get_or-map) in
    omega (arith, size_there list c.args.number c.args.factor c.requires.number within, size)

pub returns-clause-level : goal.returns-clause-level
returns-clause-level c =
    let list = sizes c.args.levels.now in
    let within : c.args.factor < length list = search (rules, length-map) in
    let size : c.len.result ≡ get_or list c.args.factor 0 = search (rules, get_or-map) in
    (digit_is list c.args.number c.args.factor c.left_at.result c.len.result
    (c.left_at.result % c.len.result) c.requires.number within c.left_at.ensures size refl).0

pub returns-clause-within : goal.returns-clause-within
returns-clause-within c =
    let list = sizes c.args.levels.now in
    let within : c.args.factor < length list = search (rules, length-map) in
    let size : c.len.result ≡ get_or list c.args.factor 0 = search (rules, get_or-map) in
    let below = (digit_is list c.args.number c.args.factor c.left_at.result c.len.result
    (c.left_at.result % c.len.result) c.requires.number within c.left_at.ensures size refl).1 in
    let length_is : c.len.result ≡ length (get_or c.args.levels.now c.args.factor []) =
    size ∙ get_or-map length c.args.levels.now c.args.factor [] 0 c.requires.factor in
    omega (arith, below, length_is)
