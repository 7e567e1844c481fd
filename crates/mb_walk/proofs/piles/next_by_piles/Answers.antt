use Rattle.std.proofs.Common.{arith, length, refl, subst, sym}
use Rattle.mb_rings.proofs.AscendingTables.{ascends-sorted}
use Rattle.mb_rings.specs.loops.Found.{Finds}
use Rattle.mb_tables.specs.Step.{IsNear}
use Rattle.mb_walk.proofs.OwnedParts.{distinct-parts}
use Rattle.mb_walk.proofs.TakenOver.{dealt-found, found-over}
use Rattle.mb_walk.specs.loops.Piles.{ArePiles, IsDealtBy, kept, seen_by}
use Rattle.mb_walk.proofs.piles.next_by_piles.Given as given
use Rattle.mb_walk.proofs.piles.next_by_piles.Goals as goal

pub take_over-requires-clause-piles : goal.take_over-requires-clause-piles
take_over-requires-clause-piles g c κs within =
    subst (ArePiles (length c.args.owners.now)) (sym c.as_slice.ensures.value)
    c.in_ok-dealers.ensures.dealt.piles

pub returns-then-len-room-clause-refused : goal.returns-then-len-room-clause-refused
returns-then-len-room-clause-refused g c =
    let known = seen_by c.args.owners.now in
    let room = c.requires.room in
    let seen = c.requires.seen in (
      refl,
      c.in_ok-next.next.items,
      found-over (length c.args.owners.now) known (seen_by c.take_over.new.owners)
          (IsNear c.args.moves.now.rows c.args.ring.now) c.in_ok-dealers.dealers.items
          c.in_ok-dealers.ensures.dealt c.in_ok-next.next.items
          (subst (λ dealers. Finds (IsDealtBy dealers) known (seen_by c.take_over.new.owners)
          c.in_ok-next.next.items) c.as_slice.ensures.value c.in_ok-next.ensures.found)
          c.args.limit
          (distinct-parts (length c.args.owners.now) (kept c.args.owners.now) c.requires.parts)
          (omega arith),
    )

-- what is found, in ascending order
found : (g : given.Over) (c : goal.After-drop-dealers-2 g) →
    Finds (IsNear c.args.moves.now.rows c.args.ring.now) (seen_by c.args.owners.now)
    (seen_by c.take_over.new.owners) c.sort_unstable.new.self.items
found g c =
    dealt-found (length c.args.owners.now) (seen_by c.args.owners.now)
    (seen_by c.take_over.new.owners) (IsNear c.args.moves.now.rows c.args.ring.now)
    c.in_ok-dealers.dealers.items c.in_ok-dealers.ensures.dealt c.in_ok-next.next.items
    (subst (λ dealers. Finds (IsDealtBy dealers) (seen_by c.args.owners.now)
    (seen_by c.take_over.new.owners) c.in_ok-next.next.items) c.as_slice.ensures.value
    c.in_ok-next.ensures.found)
    c.sort_unstable.new.self.items c.sort_unstable.ensures.permutation

pub returns-clause-found : goal.returns-clause-found
returns-clause-found g c = found g c

pub returns-clause-ascending : goal.returns-clause-ascending
returns-clause-ascending g c =
    let f = found g c in
    ascends-sorted c.sort_unstable.new.self.items c.sort_unstable.ensures.sorted f.once
