-- The ends of a run are told apart.
use Rattle.std.proofs.Common.{List, ℕ, ◌≡◌}
use Rattle.mb_completion.specs.Run.{Finished, TooHeavy, Unfinished}
use Rattle.mb_order.specs.Rewriting.{Rule}

-- a finished run has one list of rules
pub final_is : (final rules : List Rule) (n looks : ℕ) → Finished final n ≡ Finished rules looks →
    final ≡ rules
final_is final rules n looks e = cc

-- a finished run is not unfinished
pub not_unfinished : (final : List Rule) (n looks i j : ℕ) →
    Finished final n ≡ Unfinished looks i j → ⊥
not_unfinished final n looks i j e = cc

-- a finished run does not end at a peak
pub not_heavy : (final : List Rule) (n i j : ℕ) → Finished final n ≡ TooHeavy i j → ⊥
not_heavy final n i j e = cc
