use Rattle.std.proofs.Common.{Ok, [], rules, ◌∷◌, ◌≡◌}
use Rattle.mb_data.specs.Faults.{cause}
use Rattle.mb_data.specs.HeaderText.{header_of}
use Rattle.mb_data.specs.Records.{records_of}
use Rattle.mb_data.proofs.HeaderAgain.{header_again}
use Rattle.mb_data.proofs.ReadTexts.{header_read, header_refused, no_record}
use Rattle.mb_data.proofs.reading.read_dataset.Goals as goal

pub returns-in_default : goal.returns-in_default
returns-in_default c =
    let none : records_of c.args.text.now ≡ [] = search rules in
    no_record c.args.text.now none

pub read_under-requires-clause-header : goal.read_under-requires-clause-header
read_under-requires-clause-header c =
    let header : header_of c.in-Some.first.fields ≡ Ok c.in-Ok.header = search rules in
    header_again c.in-Some.first.fields c.in-Ok.header header

pub returns-in-Ok : goal.returns-in-Ok
returns-in-Ok c =
    let are : records_of c.args.text.now ≡ c.in-Some.first.fields
    ∷ c.in-Some.first.left = search rules in
    let header : header_of c.in-Some.first.fields ≡ Ok c.in-Ok.header = search rules in
    rw (header_read c.args.text.now c.in-Some.first.fields c.in-Some.first.left
    c.in-Ok.header are header)
    c.read_under.ensures

pub returns-in-Err : goal.returns-in-Err
returns-in-Err c =
    let are : records_of c.args.text.now ≡ c.in-Some.first.fields
    ∷ c.in-Some.first.left = search rules in
    let refused = rw c.in-Err.is at c.read_header.ensures in
    header_refused c.args.text.now c.in-Some.first.fields c.in-Some.first.left
    (cause c.in-Err.fault) are refused
