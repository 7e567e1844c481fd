use Rattle.std.proofs.Common.{All, map, take, ◌≡◌}
use Rattle.mb_certificate.specs.Certificate.{AreSides}
use Rattle.mb_certificate.specs.Sides.{PairSuits, sides}
use Rattle.mb_completion.proofs.making.pairs_of.Given as goal

abbrev pub invariant-loop-k : goal.invariant-loop-k
invariant-loop-k l = record {
  so_far : map sides l.pairs.items ≡ take l.k l.rules.rules;
  shape : All (PairSuits l.rules.matrix) l.pairs.items;
  sound : All (AreSides l.rules.matrix) (take l.k l.rules.rules);
}
