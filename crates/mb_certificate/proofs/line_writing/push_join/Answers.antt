use Rattle.std.proofs.Common.{ap, length, refl, ◌∙◌}
use Rattle.mb_certificate.proofs.WrittenParts.{join_written}
use Rattle.mb_certificate.specs.Certificate.{Join}
use Rattle.mb_certificate.proofs.line_writing.push_join.Goals as goal

pub returns : goal.returns
returns c =
    join_written c.args.out.now.items c.push_numbers.new.out.items c.push_spaced.new.out.items
    c.push_spaced-2.new.out.items c.push_spaced-3.new.out.items c.push.new.self.items
    c.as_slice-first.result.now c.as_slice-second.result.now c.join.inside.low c.join.inside.high
    (length c.as_slice-first.result.now) (length c.as_slice-second.result.now) c.args.join.now
    (ap (λ (j : Join). j.low) c.join.view_is) (ap (λ (j : Join). j.high) c.join.view_is)
    (c.as_slice-first.ensures.value ∙ ap (λ (j : Join). j.low_steps) c.join.view_is)
    (c.as_slice-second.ensures.value ∙ ap (λ (j : Join). j.high_steps) c.join.view_is)
    refl refl c.in_ok-push_numbers.ensures c.in_ok-push_spaced.ensures
    c.in_ok-push_spaced-2.ensures c.in_ok-push_spaced-3.ensures c.in_ok-push.ensures.items
