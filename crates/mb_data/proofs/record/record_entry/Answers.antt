use Rattle.std.proofs.Common.{[], ap, rules, sym, ◌&&◌, ◌+◌, ◌==◌, ◌∙◌, ◌≡◌, length, true}
use Rattle.std.proofs.lemmas.Option.{get_or_from_slice_get}
use Rattle.std.specs.List.{list_all}
use Rattle.std.specs.Str.{is_utf8}
use Rattle.mb_data.specs.CountField.{entry_of}
use Rattle.mb_data.proofs.GatheredRows.{count_refused, row_said}
use Rattle.mb_data.proofs.record.record_entry.Goals as goal

pub returns-in-Some-clause-row : goal.returns-in-Some-clause-row
returns-in-Some-clause-row c =
    let text : (list_all is_utf8 c.args.records.now.fields &&
    (length c.args.records.now.fields == length c.args.header.now.factors + 1))
    ≡ true = search rules in
    row_said c.args.header.now c.args.number c.args.records.now.fields
    (entry_of c.field.result.now) c.in-Some.entry text
    (ap entry_of
    (get_or_from_slice_get c.args.records.now.fields c.args.header.now.place c.field.result.now []
    (rw c.place.ensures.place at c.field.ensures)))
    (sym c.in-Some.is ∙ c.read_entry.ensures)

pub returns-in-None-clause-row : goal.returns-in-None-clause-row
returns-in-None-clause-row c =
    let text : (list_all is_utf8 c.args.records.now.fields &&
    (length c.args.records.now.fields == length c.args.header.now.factors + 1))
    ≡ true = search rules in
    count_refused c.args.header.now c.args.number c.args.records.now.fields
    (entry_of c.field.result.now) text
    (ap entry_of
    (get_or_from_slice_get c.args.records.now.fields c.args.header.now.place c.field.result.now []
    (rw c.place.ensures.place at c.field.ensures)))
    (sym c.in-None.is ∙ c.read_entry.ensures)
