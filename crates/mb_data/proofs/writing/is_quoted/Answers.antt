use Rattle.std.proofs.Common.{false, get_or, length, rules, sym, true, ◌<◌, ◌≡◌}
use Rattle.csv.specs.Writing.{default_writer, needs_byte}
use Rattle.mb_data.proofs.WrittenRows.{any_after, any_here}
use Rattle.mb_data.proofs.writing.is_quoted.Goals as goal

pub returns-then-is_special : goal.returns-then-is_special
returns-then-is_special c =
    let field = c.args.field.now in
    let k = c.loop-b.b-index in
    let within : k < length field = search rules in
    let is : needs_byte default_writer (get_or field k 0) ≡ true = search rules in
    sym (any_here (needs_byte default_writer) field k within is c.loop-b.invariant)

pub loop-b-preserved : goal.loop-b-preserved
loop-b-preserved c =
    let field = c.args.field.now in
    let k = c.loop-b.b-index in
    let within : k < length field = search rules in
    let is : needs_byte default_writer (get_or field k 0) ≡ false = search rules in
    any_after (needs_byte default_writer) field k within is c.loop-b.invariant
