use Rattle.std.proofs.Common.{length, map, rules, sym, ◌++◌, ◌∷◌, ◌≡◌, [], false}
use Rattle.std.proofs.lemmas.List.{map-append}
use Rattle.std.proofs.lemmas.List.{length-map}
use Rattle.std.specs.List.{list_any}
use Rattle.std.specs.Str.{bytes_eq}
use Rattle.std.specs.String.{string_bytes}
use Rattle.mb_data.proofs.NamePlaces.{index_put}
use Rattle.mb_data.proofs.levels.Levels.add.Goals as goal

-- src/levels.rt:62:5
pub invariant_of-self-2 : goal.invariant_of-self-2
invariant_of-self-2 c =
    let names = map string_bytes c.self.inside.names.items in
    let items : map string_bytes c.push_reserved.new.self.items ≡ names ++ c.args.name.now ∷ [] =
    search (rules, map-append) in
    let text : string_bytes c.in_ok-key.key ≡ c.args.name.now = search rules in
    let place : c.len-place.result ≡ length names = search (rules, length-map) in
    let new : list_any (bytes_eq (string_bytes c.in_ok-key.key)) names ≡ false =
    rw (text, c.self.view_is) c.requires.new in
    rw (items, sym text)
    (index_put names c.self.inside.places c.insert.new.self c.in_ok-key.key c.len-place.result
    c.self.invariant new place c.in_ok-insert.ensures.updates)
