-- The shares of a ring: which of its tables each worker expands.
use Rattle.std.specs.Prelude.{drop, length, take, ℕ, ◌*◌, ◌+◌, ◌-◌, ◌/◌}
use Rattle.mb_rings.specs.Ring.{Ring}

-- the place where the share of worker w begins, where r tables are cut among k workers
abbrev pub share_start : ℕ → ℕ → ℕ → ℕ
share_start w r k = (w * r) / k

-- the share of worker w among k: the tables from its first place on, up to the next worker's
abbrev pub share_of : Ring → ℕ → ℕ → Ring
share_of ring w k =
    take (share_start (w + 1) (length ring) k - share_start w (length ring) k)
    (drop (share_start w (length ring) k) ring)
