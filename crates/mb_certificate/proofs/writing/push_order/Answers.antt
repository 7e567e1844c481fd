use Rattle.std.proofs.Common.{[], ap, codes, sym, ◌++◌, ◌∙◌, ◌∷◌}
use Rattle.mb_certificate.proofs.WrittenParts.{grevlex_line, lex_line, on_ok}
use Rattle.mb_certificate.specs.CertificateText.{order_name}
use Rattle.mb_text.specs.Lines.{line}
use Rattle.mb_certificate.proofs.writing.push_order.Goals as goal

pub returns-in-Lex : goal.returns-in-Lex
returns-in-Lex c =
    on_ok c.push_text.result c.push_text.ensures
    (λ e. e ∙ ap (λ t. c.args.out.now.items ++ t) lex_line
    ∙ ap (λ o. c.args.out.now.items ++ line (codes "order" ∷ order_name o ∷ []))
    (sym c.in-Lex.is))

pub returns-in-Grevlex : goal.returns-in-Grevlex
returns-in-Grevlex c =
    on_ok c.push_text-in-Grevlex.result c.push_text-in-Grevlex.ensures
    (λ e. e ∙ ap (λ t. c.args.out.now.items ++ t) grevlex_line
    ∙ ap (λ o. c.args.out.now.items ++ line (codes "order" ∷ order_name o ∷ []))
    (sym c.in-Grevlex.is))
