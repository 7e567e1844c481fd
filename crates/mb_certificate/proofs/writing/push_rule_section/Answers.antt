use Rattle.mb_certificate.proofs.WrittenParts.{on_ok, rules_added}
use Rattle.mb_certificate.proofs.writing.push_rule_section.Goals as goal

pub returns : goal.returns
returns c =
    on_ok c.push_rules.result c.push_rules.ensures
    (rules_added c.args.out.now.items c.push_word_line.new.out.items c.push_rules.new.out.items
    c.args.rules.now c.in_ok-push_word_line.ensures)
