use Rattle.std.proofs.Common.{All, arith, length, subst, sym, ◌<◌}
use Rattle.std.proofs.lemmas.List.Elements.{All-more, All-push}
use Rattle.std.proofs.lemmas.Option.{get_or_from_slice_get}
use Rattle.mb_certificate.specs.Certificate.{AreSides}
use Rattle.mb_certificate.specs.Sides.{PairSuits, sides}
use Rattle.mb_completion.proofs.MadeParts.{rules-push}
use Rattle.mb_completion.proofs.making.pairs_of.Goals as goal

pub loop-k-preserved : goal.loop-k-preserved
loop-k-preserved c =
    let matrix = c.args.rules.now.matrix in
    let rules = c.args.rules.now.rules in
    let pairs = c.loop-k.pairs.items in
    let pair = c.in_ok-pair.field-0 in
    let e = c.in_ok-push.ensures.items in
    let test = c.loop-k-test.true in
    let count = c.len-k-end.ensures.rules in
    let within : c.loop-k.k < length rules = omega arith in
    record {
      so_far = rules-push rules pairs c.push.new.self.items pair c.loop-k.k
          c.loop-k.invariant.so_far within c.in_ok-pair.ensures.rule e;
      shape = subst (All (PairSuits matrix)) (sym e)
          (All-push (PairSuits matrix) pairs pair c.loop-k.invariant.shape
          c.in_ok-pair.ensures.shape);
      sound = All-more (AreSides matrix) rules c.loop-k.k (sides pair) within
          c.loop-k.invariant.sound (subst (AreSides matrix)
          (sym (get_or_from_slice_get rules c.loop-k.k (sides pair) (sides pair)
          c.in_ok-pair.ensures.rule)) c.in_ok-pair.ensures.sound);
    }
