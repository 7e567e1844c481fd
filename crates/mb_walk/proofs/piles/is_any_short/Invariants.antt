use Rattle.std.proofs.Common.{false, get_or, ℕ, ◌<◌, ◌≡◌}
use Rattle.mb_walk.specs.declared.owner.Owner.{Owner}
use Rattle.mb_walk.proofs.piles.is_any_short.Given as goal

abbrev pub invariant-loop-owner : goal.invariant-loop-owner
invariant-loop-owner l =
    (k : ℕ) (d : Owner) → k < l.owner-index → (get_or l.owners k d).is_short ≡ false
