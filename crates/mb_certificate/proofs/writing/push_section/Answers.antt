use Rattle.mb_certificate.proofs.WrittenParts.{on_ok, section_added}
use Rattle.mb_certificate.proofs.writing.push_section.Goals as goal

pub returns : goal.returns
returns g c =
    on_ok c.push_parts.result c.push_parts.ensures
    (section_added g.P.Part.to_items c.args.out.now.items c.push_word_line.new.out.items
    c.push_parts.new.out.items c.args.word.now c.args.parts.now c.in_ok-push_word_line.ensures)
