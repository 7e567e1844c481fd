use Rattle.std.proofs.Common.{ap, length, refl, ◌∙◌}
use Rattle.mb_certificate.proofs.WrittenParts.{start_written}
use Rattle.mb_certificate.specs.Certificate.{Start}
use Rattle.mb_certificate.proofs.line_writing.push_start.Goals as goal

pub returns : goal.returns
returns c =
    start_written c.args.out.now.items c.push_number.new.out.items c.push_spaced.new.out.items
    c.push_spaced-2.new.out.items c.push_spaced-3.new.out.items c.push.new.self.items
    c.as_slice-first.result.now c.as_slice-second.result.now (length c.as_slice-first.result.now)
    (length c.as_slice-second.result.now)
    c.args.start.now
    (c.as_slice-first.ensures.value ∙ ap (λ (s : Start). s.margin_steps) c.start.view_is)
    (c.as_slice-second.ensures.value ∙ ap (λ (s : Start). s.cell_steps) c.start.view_is)
    refl refl c.in_ok-push_number.ensures c.in_ok-push_spaced.ensures
    c.in_ok-push_spaced-2.ensures c.in_ok-push_spaced-3.ensures c.in_ok-push.ensures.items
