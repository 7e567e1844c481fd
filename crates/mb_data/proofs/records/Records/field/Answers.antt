use Rattle.std.proofs.Common.{ap, sym, ◌∙◌}
use Rattle.csv.specs.Records.{fields_of}
use Rattle.mb_data.specs.Records.{Reading}
use Rattle.mb_data.proofs.FieldPlaces.{field_is, field_there}
use Rattle.mb_data.proofs.records.Records.field.Goals as goal

pub unreachable-requires : goal.unreachable-requires
unreachable-requires c =
    field_there (fields_of c.self.inside.row) c.args.place
    (rw (ap (λ (r : Reading). r.fields) c.self.view_is) c.requires)
    (sym (rw c.in-None.is at c.get.ensures.value))

pub returns : goal.returns
returns c =
    rw (sym (ap (λ (r : Reading). r.fields) c.self.view_is))
    (sym (field_is (fields_of c.self.inside.row) c.args.place)
    ∙ sym (rw c.in-Some.is at c.get.ensures.value))
