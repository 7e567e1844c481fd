use Rattle.mb_kinds.proofs.WrittenLines.{head_written}
use Rattle.mb_kinds.proofs.record_written.push_head.Goals as goal

pub returns : goal.returns
returns c =
    head_written c.args.out.now.items c.push_text.new.out.items c.push_text-2.new.out.items
    c.push_text-3.new.out.items c.push_text-4.new.out.items c.push_word_line.new.out.items
    c.as_bytes.result.now c.args.dataset.now _ c.as_bytes.ensures.value
    c.in_ok-push_text.ensures c.in_ok-push_text-2.ensures c.in_ok-push_text-3.ensures
    c.in_ok-push_text-4.ensures c.in_ok-push_word_line.ensures
