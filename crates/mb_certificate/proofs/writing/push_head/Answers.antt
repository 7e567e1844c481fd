use Rattle.std.proofs.Common.{[], ap, codes, ◌++◌, ◌∙◌, ◌∷◌}
use Rattle.mb_certificate.proofs.WrittenParts.{on_ok, version_line}
use Rattle.mb_certificate.specs.CertificateText.{order_name}
use Rattle.mb_certificate.specs.Written.{matrix_text}
use Rattle.mb_text.proofs.PutBehind.{three_put}
use Rattle.mb_text.specs.Lines.{line}
use Rattle.mb_certificate.proofs.writing.push_head.Goals as goal

pub returns : goal.returns
returns c =
    on_ok c.push_order.result c.push_order.ensures
    (three_put c.args.out.now.items c.push_text.new.out.items c.push_matrix.new.out.items
    c.push_order.new.out.items (line (codes "certificate" ∷ codes "1" ∷ []))
    (matrix_text c.args.matrix.now) (line (codes "order" ∷ order_name c.args.order ∷ []))
    (c.in_ok-push_text.ensures ∙ ap (λ t. c.args.out.now.items ++ t) version_line)
    c.in_ok-push_matrix.ensures)
