use Rattle.std.proofs.Common.{arith, subst, sym, ◌∙◌}
use Rattle.std.proofs.lemmas.List.{length-map}
use Rattle.mb_keyed.proofs.LentLists.{refill-all}
use Rattle.mb_keyed.proofs.RingTables.{all-read}
use Rattle.mb_keyed.proofs.ring_tables.read_tables.Goals as goal
use Rattle.mb_keyed.specs.declared.ranked.Ranked.{Ranked}
use Rattle.mb_keyed.specs.loops.ReadRing.{AreReadAs}
use Rattle.mb_keyed.specs.loops.Worked.{keys_in}

pub returns : goal.returns
returns g c =
    let long = length-map c.args.order.now (λ (r : Ranked). r.key) in
    subst (AreReadAs c.args.fiber.now (keys_in c.args.order.now))
    (sym (refill-all c.in_ok-tables.tables.len c.in_ok-tables.tables.items c.read_all.new.tables
    (omega arith)))
    (all-read c.args.fiber.now (keys_in c.args.order.now) c.read_all.new.tables
    (c.read_all.ensures.count ∙ sym long)
    (λ k d l. c.read_all.ensures.read k d (omega arith))
    (c.is_any_blank.ensures c.if-is_any_blank.false))
