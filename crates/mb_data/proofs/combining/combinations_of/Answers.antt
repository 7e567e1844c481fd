use Rattle.std.proofs.Common.{ap, get_or, length, min, rules, sym, ◌*◌, ◌-◌, ◌<◌, ◌^◌, ◌∙◌, ◌≡◌, ◌≤◌}
use Rattle.std.proofs.lemmas.List.{get_or-map, length-map}
use Rattle.mb_data.specs.CrossTable.{sizes}
use Rattle.mb_data.proofs.LevelDigits.{all_counted, cut_more, no_factor}
use Rattle.mb_data.proofs.combining.combinations_of.Goals as goal

pub loop-k-init : goal.loop-k-init
loop-k-init c = ap (λ n. min n (2 ^ 64 - 1)) (sym (no_factor (sizes c.args.levels.now)))

pub loop-k-preserved : goal.loop-k-preserved
loop-k-preserved c =
    let list = sizes c.args.levels.now in
    let within : c.loop-k.k < length list = search (rules, length-map) in
    let size : c.len.result ≡ get_or list (length list - 1 - c.loop-k.k) 0 =
    search (rules, get_or-map, length-map) in
    let next : c.saturating_mul-count.result ≡ min (c.loop-k.count * c.len.result)
    (2 ^ 64 - 1) = search rules in
    cut_more list c.loop-k.k c.loop-k.count c.len.result (2 ^ 64 - 1) c.saturating_mul-count.result
    within c.loop-k.invariant size next

pub returns : goal.returns
returns c =
    let past : length (sizes c.args.levels.now) ≤ c.loop-k.k = search (rules, length-map) in
    c.loop-k.invariant
    ∙ ap (λ n. min n (2 ^ 64 - 1)) (all_counted (sizes c.args.levels.now) c.loop-k.k past)
