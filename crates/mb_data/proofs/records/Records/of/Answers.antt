use Rattle.std.proofs.Common.{arith, length, rules, ◌<◌, ◌^◌, ◌≡◌, ap, List, ℕ}
use Rattle.mb_data.specs.Records.{left_in, records_of}
use Rattle.mb_data.proofs.FewRecords.{few_records}
use Rattle.mb_data.proofs.records.Records.of.Goals as goal

pub returns-clause-few : goal.returns-clause-few
returns-clause-few c =
    let is : left_in c.in_ok-new.field-0.value ≡ records_of c.args.text.now = search rules in
    let long : length c.args.text.now < 2 ^ 63 = search rules in
    omega (
      arith,
      ap (λ (list : List (List (List ℕ))). length list) is,
      few_records c.args.text.now,
      long,
    )
