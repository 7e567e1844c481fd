use Rattle.std.proofs.Common.{List, ap, rules, ℕ, ◌∙◌, ◌≡◌, false, ◌++◌, ◌∷◌, [], map}
use Rattle.std.proofs.lemmas.List.{map-append}
use Rattle.std.specs.String.{string_bytes}
use Rattle.mb_data.specs.HeaderText.{is_header_field}
use Rattle.mb_data.proofs.HeaderSteps.{failed, field_more, field_refused, fields_accepted, passed}
use Rattle.mb_data.proofs.header.field_names.Goals as goal

pub returns-in_default : goal.returns-in_default
returns-in_default c =
    let refused : is_header_field c.field.result.now ≡ false =
    failed _ c.field.result.now (rw c.in_default.is at c.header_field.ensures) in
    field_refused c.args.records.now.fields c.loop-k.k c.field.result.now (search rules)
    c.field.ensures refused

pub loop-k-preserved : goal.loop-k-preserved
loop-k-preserved c =
    let fact = passed (is_header_field c.field.result.now) c.in-Some.name.now c.field.result.now
    (rw c.in-Some.is at c.header_field.ensures) in
    let text : string_bytes c.in_ok-from_str.field-0 ≡ c.in-Some.name.now = search rules in
    let name : map string_bytes c.push.new.self.items
    ≡ map string_bytes c.loop-k.names.items ++ c.field.result.now ∷ [] =
    ap (map string_bytes) c.in_ok-push.ensures.items
    ∙ map-append string_bytes c.loop-k.names.items (c.in_ok-from_str.field-0 ∷ [])
    ∙ ap (λ (n : List ℕ). map string_bytes c.loop-k.names.items ++ n ∷ []) (text ∙ fact.1) in
    rw name
    (field_more c.args.records.now.fields (map string_bytes c.loop-k.names.items) c.loop-k.k
    c.field.result.now (search rules) c.field.ensures fact.0 c.loop-k.invariant)

pub returns : goal.returns
returns c =
    fields_accepted c.args.records.now.fields (map string_bytes c.loop-k.names.items) c.loop-k.k
    (search rules) c.loop-k.invariant
