use Rattle.std.proofs.Common.{ap, length, refl, ◌∙◌}
use Rattle.mb_certificate.proofs.WrittenParts.{path_written}
use Rattle.mb_certificate.specs.Certificate.{Path}
use Rattle.mb_certificate.proofs.line_writing.push_path.Goals as goal

pub returns : goal.returns
returns c =
    path_written c.args.out.now.items c.push_number.new.out.items c.push_spaced.new.out.items
    c.push_spaced-2.new.out.items c.push.new.self.items c.as_slice-steps.result.now
    c.path.inside.rule (length c.as_slice-steps.result.now) c.args.path.now
    (ap (λ (p : Path). p.rule) c.path.view_is)
    (c.as_slice-steps.ensures.value ∙ ap (λ (p : Path). p.steps) c.path.view_is) refl
    c.in_ok-push_number.ensures c.in_ok-push_spaced.ensures c.in_ok-push_spaced-2.ensures
    c.in_ok-push.ensures.items
