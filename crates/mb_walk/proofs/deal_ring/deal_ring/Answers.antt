use Rattle.std.proofs.Common.{All, List, ap, arith, length, subst, sym, ◌∙◌, ◌≡◌}
use Rattle.mb_keyed.proofs.LentLists.{refill-all}
use Rattle.mb_rings.specs.loops.Found.{IsSearchFault}
use Rattle.mb_tables.proofs.HandedOn.{handed_on}
use Rattle.mb_tables.specs.Step.{IsNear}
use Rattle.mb_walk.proofs.DealtRings.{dealt-all, dealt-over}
use Rattle.mb_walk.proofs.OwnedParts.{distinct-parts}
use Rattle.mb_walk.specs.declared.dealer.Dealer.{Dealer}
use Rattle.mb_walk.specs.loops.Piles.{AreDealt, IsOver, IsWhole, kept, seen_by}
use Rattle.mb_walk.proofs.deal_ring.deal_ring.Goals as goal

pub returns-in_err-judge-clause-refused : goal.returns-in_err-judge-clause-refused
returns-in_err-judge-clause-refused g c =
    let items = c.in_ok-dealers.dealers.items in
    let new = c.lend.new.dealers in
    let e : c.in_ok-dealers.dealers.len ≡ length new = omega arith in
    let was : length c.as_mut_slice.result.now ≡ length items =
    ap (λ (list : List Dealer). length list) c.as_mut_slice.ensures.value in
    let same = refill-all c.in_ok-dealers.dealers.len items new e in
    let fault = c.in_err-judge.field-0.0 in
    handed_on c.from_residual-in_err-judge.result fault
    (IsSearchFault (IsNear c.args.moves.now.rows c.args.ring.now) c.args.limit
    (seen_by c.args.owners.now)) c.from_residual-in_err-judge.ensures.1
    (dealt-over c.args.room (seen_by c.args.owners.now) (length c.args.owners.now)
    c.args.moves.now.rows c.args.ring.now (length c.as_mut_slice.result.now) new
    (omega (arith, c.in_ok-dealers.ensures.count, was)) (omega arith)
    c.lend.ensures.ours c.lend.ensures.dealt c.args.limit fault
    (distinct-parts (length c.args.owners.now) (kept c.args.owners.now) c.requires.parts)
    c.requires.room
    (subst (λ list. IsOver c.args.room c.args.limit list fault) (c.as_slice.ensures.value ∙ same)
    c.in_err-judge.ensures.refused))

pub returns-clause-dealt : goal.returns-clause-dealt
returns-clause-dealt g c =
    let items = c.in_ok-dealers.dealers.items in
    let new = c.lend.new.dealers in
    let e : c.in_ok-dealers.dealers.len ≡ length new = omega arith in
    let was : length c.as_mut_slice.result.now ≡ length items =
    ap (λ (list : List Dealer). length list) c.as_mut_slice.ensures.value in
    let same = refill-all c.in_ok-dealers.dealers.len items new e in
    subst (AreDealt (length c.args.owners.now) (seen_by c.args.owners.now)
    (IsNear c.args.moves.now.rows c.args.ring.now)) (sym same)
    (dealt-all c.args.room (seen_by c.args.owners.now) (length c.args.owners.now)
    c.args.moves.now.rows c.args.ring.now (length c.as_mut_slice.result.now) new
    (omega (arith, c.in_ok-dealers.ensures.count, was)) (omega arith)
    c.lend.ensures.ours c.lend.ensures.dealt
    (subst (All (IsWhole c.args.room)) (c.as_slice.ensures.value ∙ same)
    c.in_ok-judge.ensures.whole))
