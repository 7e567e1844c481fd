use Rattle.std.proofs.Common.{All, [], ap, arith, length, length-append, subst, sym, ◌∷◌}
use Rattle.std.proofs.lemmas.List.Elements.{All-push}
use Rattle.mb_certificate.specs.Certificate.{IsStart}
use Rattle.mb_completion.proofs.MadeParts.{starts-push}
use Rattle.mb_completion.proofs.starts.starts_of.Goals as goal

pub loop-cell-preserved : goal.loop-cell-preserved
loop-cell-preserved c =
    let rules = c.args.rules.now in
    let starts = c.loop-cell.starts.items in
    let start = c.in_ok-start.field-0 in
    let e = c.in_ok-push.ensures.items in
    let long = c.loop-cell.invariant.long in
    record {
      long = (let f = ap length e in let g = length-append starts (start ∷ []) in omega arith);
      normal = starts-push rules.matrix rules.rules starts c.push.new.self.items start
          c.loop-cell.cell long c.loop-cell.invariant.normal c.in_ok-start.ensures.normal e;
      sound = subst (All IsStart) (sym e)
          (All-push IsStart starts start c.loop-cell.invariant.sound c.in_ok-start.ensures.sound);
    }
