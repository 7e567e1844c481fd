use Rattle.std.proofs.Common.{drop, ◌≡◌}
use Rattle.mb_certificate.specs.FirstFault.{replay}
use Rattle.mb_checker.proofs.traces.replay.Given as goal
use Rattle.mb_order.specs.Weight.{IsLight, Suits}

abbrev pub invariant-loop-k : goal.invariant-loop-k
invariant-loop-k l = record {
  rest : replay l.certificate.rules (drop l.k-index l.trace) l.m.list
      ≡ replay l.certificate.rules l.trace l.initial.m.list;
  shape : Suits l.certificate.matrix l.m;
  light : IsLight l.certificate.matrix l.m.list;
}
