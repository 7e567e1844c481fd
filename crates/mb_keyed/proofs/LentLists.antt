-- Vectors whose elements are all lent as a slice.
use Rattle.std.proofs.Common.{List, ap, drop, length, take, ℕ, ◌++◌, ◌∙◌, ◌≡◌}
use Rattle.std.proofs.Math.Seq.{take-append_seam}
use Rattle.std.specs.List.{refill}

-- what comes back is all that the vector has
pub refill-all : {X : Type 0} (len : ℕ) (items new : List X) → len ≡ length new →
    refill len items new ≡ new
refill-all len items new e =
    ap (λ n. take n (new ++ drop (length new) items)) e
    ∙ take-append_seam new (drop (length new) items)
