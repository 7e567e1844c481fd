use Rattle.std.proofs.Common.{arith, rules, ◌++◌, ◌∙◌, ◌∷◌, [], ◌≡◌}
use Rattle.mb_kinds.proofs.RangeSteps.{values_more}
use Rattle.mb_kinds.proofs.hardy_weinberg.push_pairs.Goals as goal

pub loop-other-preserved : goal.loop-other-preserved
loop-other-preserved c =
    let pushed : c.push.new.self.items ≡ c.loop-other.pairs.items
    ++ (c.args.class, c.loop-other.other) ∷ [] = search rules in
    let past = c.loop-other.invariant.past in
    record {
      past = omega (arith, past);
      pairs = pushed ∙ values_more (λ j. (c.args.class, j)) c.args.class c.loop-other.other
          c.args.pairs.items c.loop-other.pairs.items past c.loop-other.invariant.pairs;
    }
