use Rattle.std.proofs.Common.{◌∙◌}
use Rattle.mb_registry.proofs.ListedLines.{row_pushed}
use Rattle.mb_registry.proofs.listing.push_row.Goals as goal

pub returns : goal.returns
returns c =
    row_pushed c.args.out.now.items _ _ _ _ _ _ _ _ _ _ _
    (c.as_bytes.ensures.value ∙ c.word.ensures) (c.as_bytes-2.ensures.value ∙ c.text.ensures.text)
    c.in_ok-push_text.ensures c.in_ok-push_text-2.ensures c.in_ok-push_text-3.ensures
    c.in_ok-push_text-4.ensures c.in_ok-push_number.ensures c.in_ok-push_text-5.ensures
