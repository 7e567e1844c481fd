use Rattle.std.proofs.Common.{false, get_or, ℕ, ◌<◌, ◌≡◌}
use Rattle.mb_rules.proofs.RulesInCode.{no_rule}
use Rattle.mb_rules.proofs.rules.Rules.first.Given as goal
use Rattle.mb_tables.specs.Vectors.{within}

abbrev pub invariant-loop-k : goal.invariant-loop-k
invariant-loop-k l = (i : ℕ) → i < l.k → within (get_or l.self.rules i no_rule).0 l.m.list ≡ false
