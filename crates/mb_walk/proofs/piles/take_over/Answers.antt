use Rattle.std.proofs.Common.{arith, get_or, length, refl, subst, sym, ℕ, ◌<◌, []}
use Rattle.mb_rings.specs.Ring.{tables_of}
use Rattle.mb_rings.specs.loops.Found.{Finds, FindsMore}
use Rattle.mb_walk.proofs.TakenOver.{kept-parts, taken-over}
use Rattle.mb_walk.specs.declared.owner.Owner.{Owner}
use Rattle.mb_walk.specs.loops.Piles.{AreOwned, IsDealt, IsDealtBy, joined, seen_by}
use Rattle.mb_walk.proofs.piles.take_over.Given as given
use Rattle.mb_walk.proofs.piles.take_over.Goals as goal

-- what each owner found
each : (g : given.Over) (c : goal.In_ok-next g) (i : ℕ) (d : Owner) → i < length c.args.owners.now →
    FindsMore (IsDealt c.args.dealers.now i) (get_or c.args.owners.now i d).visited
    (get_or c.merge_all.new.owners i d).visited [] (get_or c.merge_all.new.owners i d).next.items
each g c i d l =
    c.merge_all.ensures.merged i d l
    (c.is_any_short.ensures c.if-is_any_short.false i d (omega arith))

pub returns-clause-parts : goal.returns-clause-parts
returns-clause-parts g c =
    subst (AreOwned (length c.args.owners.now)) (sym c.join.ensures.kept)
    (kept-parts (length c.args.owners.now) c.args.dealers.now c.args.owners.now
    c.merge_all.new.owners (omega arith) refl c.merge_all.ensures.count c.requires.piles
    c.requires.parts (each g c))

pub returns-clause-found : goal.returns-clause-found
returns-clause-found g c =
    subst (λ list. Finds (IsDealtBy c.args.dealers.now) (seen_by c.args.owners.now)
    (seen_by c.join.new.owners) list) (sym c.in_ok-next.ensures.ring)
    (subst (λ parts. Finds (IsDealtBy c.args.dealers.now) (seen_by c.args.owners.now)
    (tables_of parts) (tables_of (joined c.merge_all.new.owners))) (sym c.join.ensures.kept)
    (taken-over (length c.args.owners.now) c.args.dealers.now c.args.owners.now
    c.merge_all.new.owners (omega arith) refl c.merge_all.ensures.count c.requires.piles
    c.requires.parts (each g c)))
