use Rattle.std.proofs.Common.{ap, ◌++◌, ◌∙◌}
use Rattle.mb_kinds.proofs.WrittenLines.{all_line}
use Rattle.mb_kinds.proofs.record_written.push_total.Goals as goal

pub returns : goal.returns
returns c =
    c.in_ok-push_text.ensures ∙ ap (λ text. c.args.out.now.items ++ text) all_line
