use Rattle.std.proofs.Common.{length, ◌≡◌}
use Rattle.mb_walk.proofs.OpenOwners.{AreOpen}
use Rattle.mb_walk.specs.loops.Piles.{kept}
use Rattle.mb_walk.proofs.owner.open_owners.Given as goal

abbrev pub invariant-loop-number : goal.invariant-loop-number
invariant-loop-number l =
    (length l.list.items ≡ l.number) × AreOpen l.owners l.start (kept l.list.items)
