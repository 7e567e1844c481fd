use Rattle.std.proofs.Common.{[], ap, length, map, rules, sym, get_or, ◌<◌, ◌∙◌, ◌≡◌, not, List, ℕ}
use Rattle.std.proofs.lemmas.List.{get_or-map, length-map}
use Rattle.std.specs.String.{string_bytes}
use Rattle.std.specs.List.{list_any}
use Rattle.std.specs.Str.{bytes_eq}
use Rattle.mb_data.specs.Levels.{with_name}
use Rattle.mb_data.proofs.HeaderSteps.{repeat_ends, repeat_goes, repeat_none}
use Rattle.mb_data.proofs.header.repeats.Goals as goal

pub returns-then-not-is_new : goal.returns-then-not-is_new
returns-then-not-is_new c =
    let names = map string_bytes c.args.names.now in
    let within : c.loop-name.name-index < length names = search (rules, length-map) in
    let name : get_or names c.loop-name.name-index [] ≡ c.as_str.result.now =
    search (rules, get_or-map) in
    repeat_ends c.loop-name.earlier names c.loop-name.name-index c.is_new.result _ within
    (c.is_new.ensures ∙ ap (λ (n : List ℕ). not (list_any (bytes_eq n) c.loop-name.earlier))
    (sym name))
    (search rules) c.loop-name.invariant

pub loop-name-preserved : goal.loop-name-preserved
loop-name-preserved c =
    let names = map string_bytes c.args.names.now in
    let within : c.loop-name.name-index < length names = search (rules, length-map) in
    let name : get_or names c.loop-name.name-index [] ≡ c.as_str.result.now =
    search (rules, get_or-map) in
    let new : c.is_new.result ≡ not (list_any (bytes_eq (get_or names c.loop-name.name-index []))
    c.loop-name.earlier) =
    c.is_new.ensures ∙ ap (λ (n : List ℕ). not (list_any (bytes_eq n) c.loop-name.earlier))
    (sym name) in
    let after : c.add_new.new.self ≡ with_name c.loop-name.earlier
    (get_or names c.loop-name.name-index []) =
    search (rules, get_or-map) in
    rw after
    (repeat_goes c.loop-name.earlier names c.loop-name.name-index c.is_new.result _ within new
    (search rules) c.loop-name.invariant)

pub returns : goal.returns
returns c =
    repeat_none c.loop-name.earlier (map string_bytes c.args.names.now) c.loop-name.name-index _
    (search (rules, length-map)) c.loop-name.invariant
