use Rattle.std.proofs.Common.{codes}
use Rattle.mb_certificate.proofs.WrittenParts.{on_ok, section_added}
use Rattle.mb_certificate.specs.Written.{move_items}
use Rattle.mb_certificate.proofs.writing.push_move_section.Goals as goal

pub returns : goal.returns
returns c =
    on_ok c.push_moves.result c.push_moves.ensures
    (section_added move_items c.args.out.now.items c.push_word_line.new.out.items
    c.push_moves.new.out.items (codes "moves") c.args.moves.now c.in_ok-push_word_line.ensures)
