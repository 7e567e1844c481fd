use Rattle.std.proofs.Common.{map}
use Rattle.std.specs.Fmt.{decimal}
use Rattle.mb_kinds.proofs.WrittenLines.{scale_written}
use Rattle.mb_kinds.proofs.record_written.push_row_margins.Goals as goal

pub returns : goal.returns
returns c =
    scale_written c.args.out.now.items c.push_text.new.out.items c.push_word_line.new.out.items
    (map decimal c.args.rows.now) c.in_ok-push_text.ensures c.in_ok-push_word_line.ensures
