use Rattle.std.proofs.Common.{ap, arith, drop, get_or, length, rules, sym, ◌*◌, ◌+◌, ◌-◌, ◌/◌, ◌<◌, ◌∙◌, ◌≡◌}
use Rattle.std.proofs.lemmas.List.{get_or-map, length-map}
use Rattle.mb_data.specs.CrossTable.{combinations, sizes}
use Rattle.mb_data.proofs.LevelDigits.{combinations_more, left_more, none_left, size_there}
use Rattle.mb_data.proofs.combining.left_at.Goals as goal

pub loop-k-init : goal.loop-k-init
loop-k-init c = none_left (sizes c.args.levels.now) c.args.number

pub nonzero_div-left : goal.nonzero_div-left
nonzero_div-left c =
    let list = sizes c.args.levels.now in
    let at = length list - 1 - c.loop-k.k in
    let within : at < length list = search (rules, length-map) in
    let size : c.len.result ≡ get_or list at 0 = search (rules, get_or-map, length-map) in
    omega (arith, size_there list c.args.number at c.requires.number within, size)

pub loop-k-preserved : goal.loop-k-preserved
loop-k-preserved c =
    let list = sizes c.args.levels.now in
    let within : c.loop-k.k < length list = search (rules, length-map) in
    let size : c.len.result ≡ get_or list (length list - 1 - c.loop-k.k) 0 =
    search (rules, get_or-map, length-map) in
    let before = combinations (drop (length list - (c.loop-k.k + 1)) list) in
    let after = combinations (drop (length list - c.loop-k.k) list) in
    let more : before ≡ c.len.result * after =
    combinations_more list c.loop-k.k within ∙ ap (λ n. n * after) (sym size) in
    left_more c.args.number after c.len.result before c.loop-k.left more c.loop-k.invariant

pub returns : goal.returns
returns c =
    let list = sizes c.args.levels.now in
    let at : length list - c.loop-k.k ≡ c.args.factor + 1 = search (rules, length-map) in
    c.loop-k.invariant ∙ ap (λ n. c.args.number / combinations (drop n list)) at
