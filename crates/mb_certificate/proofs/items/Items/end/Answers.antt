use Rattle.std.proofs.Common.{Err, ap, sym, ◌∙◌}
use Rattle.std.specs.Option.{option_map}
use Rattle.mb_certificate.proofs.PieceCases.{none_left-not}
use Rattle.mb_certificate.specs.CertificateText.{read_cause}
use Rattle.mb_certificate.specs.Reading.{ItemsLeft, line_ends}
use Rattle.mb_certificate.specs.loops.Counted.{items_left}
use Rattle.mb_tables.proofs.HandedOn.{refused_at}
use Rattle.mb_certificate.proofs.items.Items.end.Goals as goal

pub returns-in-Some : goal.returns-in-Some
returns-in-Some c =
    refused_at (read_cause c.wrong.result) c.args.self.now.number (line_ends c.args.self.now)
    c.wrong.ensures
    (ap line_ends (sym c.self.view_is)
    ∙ ap (λ rest. line_ends (record {
      number = c.self.inside.number;
      items =
          items_left (option_map (λ r. r.now) rest);
    })) c.in-Some.is
    ∙ none_left-not c.self.inside.number c.in-Some.field-0.now
    ∙ ap (λ (i : ItemsLeft). Err i.number) c.self.view_is)
