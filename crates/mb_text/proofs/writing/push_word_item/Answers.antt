use Rattle.mb_text.proofs.JoinSteps.{item_line_added}
use Rattle.mb_text.proofs.writing.push_word_item.Goals as goal

pub returns : goal.returns
returns c =
    item_line_added c.args.out.now.items _ _ _ _ c.args.word.now c.args.item.now
    c.in_ok-push_text.ensures c.in_ok-push.ensures.items c.in_ok-push_text-2.ensures
    c.in_ok-push-2.ensures.items
