use Rattle.std.proofs.Common.{drop, ◌≡◌, ◌≤◌}
use Rattle.std.specs.Option.{option_map}
use Rattle.mb_text.specs.loops.Capped.{capped}
use Rattle.mb_text.specs.Numerals.{natural_after}
use Rattle.mb_text.proofs.numerals.capped_natural.Given as goal

abbrev pub invariant-loop-b : goal.invariant-loop-b
invariant-loop-b l = record {
  bound : l.n ≤ 4294967296;
  left : option_map capped (natural_after l.n (drop l.b-index l.digits))
      ≡ option_map capped (natural_after 0 l.digits);
}
