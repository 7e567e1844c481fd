-- Each share of a ring falls to a pass.
use Rattle.std.proofs.Common.{List, inl, inr, refl, ℕ, ℤ, ◌<◌, ◌≤◌, ◌⊎◌}
use Rattle.mb_keyed.specs.loops.Rounds.{FallsTo, IsNearBefore}
use Rattle.mb_rings.proofs.RingShares.{In-share, In-some_share, lower}
use Rattle.mb_rings.specs.Ring.{Ring}
use Rattle.mb_tables.specs.Step.{IsNear}

-- each share falls to some pass
falls-somewhere : (n w : ℕ) → 0 < n → (i : ℕ) × (i < n) × FallsTo n i w
falls-somewhere n w some = by (lower w n)
  where
    by : (w < n) ⊎ (n ≤ w) → (i : ℕ) × (i < n) × FallsTo n i w
    by (inl l) = (w, l, inl refl)
    by (inr l) = (0, some, inr (refl, l))

-- a table one step from the ring is one step from a share that falls to some pass
pub near-covered : (moves : List (List ℤ)) (ring : Ring) (k n : ℕ) → 0 < k → 0 < n →
    (v : List ℕ) → IsNear moves ring v →
    (i : ℕ) × (i < n) × IsNearBefore moves ring k n i k v
near-covered moves ring k n shares passes v near =
    let s = In-some_share ring k shares near.0 near.1 in
    let f = falls-somewhere n s.0 passes in
    (f.0, f.1, (s.0, s.1, (f.2, (near.0, s.2, near.2))))

-- and the other way round
pub near-only : (moves : List (List ℤ)) (ring : Ring) (k n i end : ℕ) (v : List ℕ) →
    IsNearBefore moves ring k n i end v → IsNear moves ring v
near-only moves ring k n i end v h =
    let near = h.2.1 in (near.0, In-share ring h.0 k near.0 near.1, near.2)
