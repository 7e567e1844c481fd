use Rattle.mb_certificate.proofs.WrittenParts.{parts_written}
use Rattle.std.proofs.Common.{◌∙◌}
use Rattle.mb_certificate.proofs.writing.write.Goals as goal

pub returns : goal.returns
returns c =
    parts_written c.args.certificate.now c.matrix.result.now c.order.result c.as_slice.result.now
    c.rules.result.now c.starts.result.now c.joins.result.now c.paths.result.now
    c.new-out.result.items c.push_head.new.out.items c.push_move_section.new.out.items
    c.push_rule_section.new.out.items c.push_proof.new.out.items c.push_text.new.out.items
    c.matrix.ensures.matrix c.order.ensures (c.as_slice.ensures.moves ∙ c.moves.ensures.moves)
    c.rules.ensures.rules c.starts.ensures.starts c.joins.ensures.joins c.paths.ensures.paths
    c.new-out.ensures.items c.in_ok-push_head.ensures c.in_ok-push_move_section.ensures
    c.in_ok-push_rule_section.ensures c.in_ok-push_proof.ensures c.in_ok-push_text.ensures
