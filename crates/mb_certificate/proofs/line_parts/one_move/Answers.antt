use Rattle.std.proofs.Common.{arith, length, subst, sym, ◌≤◌}
use Rattle.std.proofs.lemmas.List.Elements.{All-from_recursion}
use Rattle.std.specs.Fmt.{signed_decimal}
use Rattle.mb_certificate.proofs.ItemLaws.{all_of_read}
use Rattle.mb_certificate.proofs.NumberItems.{entry_read}
use Rattle.mb_certificate.specs.CertificateText.{entry}
use Rattle.mb_tables.specs.Entries.{AreEntries, IsEntry}
use Rattle.mb_certificate.proofs.line_parts.one_move.Goals as goal

pub from_entries-requires : goal.from_entries-requires
from_entries-requires c =
    let read =
    all_of_read entry signed_decimal IsEntry entry_read c.from.result c.args.items.now
    c.in_ok-entries.entries.items c.in_ok-entries.ensures.numbers in
    let many : length c.in_ok-entries.entries.items ≤ 64 =
    let long = read.2 in let same = c.from.ensures in let few = c.requires in omega arith in
    subst AreEntries (sym c.as_slice.ensures.value)
    (record {
      few = many;
      each = All-from_recursion IsEntry c.in_ok-entries.entries.items read.1;
    })
