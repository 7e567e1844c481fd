use Rattle.std.proofs.Common.{ap, sym, ◌∙◌}
use Rattle.mb_claims.proofs.ProbeSteps.{some_words}
use Rattle.mb_claims.proofs.RootKnows.{looks-kept}
use Rattle.mb_claims.proofs.Gathering.{joins-kept}
use Rattle.mb_claims.proofs.RootSteps.{gathered_seat, looked_seat}
use Rattle.mb_claims.specs.ClaimStep.{gathers}
use Rattle.mb_claims.specs.Claims.{PassSeat, RootSeat, ShardWords}
use Rattle.mb_claims.specs.View.{pass_of, root_of}
use Rattle.mb_claims.proofs.shards.Shards.gather.Goals as goal

pub join_seat-requires : goal.join_seat-requires
join_seat-requires c =
    let words = ap (λ (s : ShardWords). s.table) (sym c.self.view_is) in (
      ap (λ (r : RootSeat). r.table) c.root.view_is ∙ c.requires.root_ours.0 ∙ words,
      ap (λ (p : PassSeat). p.table) c.pass.view_is ∙ c.requires.pass_ours.0 ∙ words,
      ap (λ t. t.1) c.pass.invariant,
      some_words c.self.invariant,
      joins-kept c.self.inside.table.shared.key.items c.root.inside.seat.id c.pass.inside.seat.id
          c.root.inside.seat.me.0 c.pass.inside.seat.me.0 (root_of c.root.inside.seat.me.0)
          (pass_of c.pass.inside.seat.me.0) (ap (λ t. t.0) c.root.invariant.view)
          (ap (λ t. t.0) c.pass.invariant),
    )

pub load-requires : goal.load-requires
load-requires c =
    let words = ap (λ (s : ShardWords). s.table) (sym c.self.view_is) in
    let after = gathered_seat c.root.inside.seat.me c.join_seat.new.seat.me c.pass.inside.seat.me.0
    c.root.invariant.view (ap (λ t. t.0) c.pass.invariant) c.join_seat.ensures.2 in (
      c.join_seat.ensures.0 ∙ ap (λ (r : RootSeat). r.table) c.root.view_is ∙ c.requires.root_ours.0
          ∙ words,
      some_words c.self.invariant,
      looks-kept c.self.inside.table.shared.key.items c.self.inside.table.shared.table_id.slots
          c.join_seat.new.seat.id 0 c.join_seat.new.seat.me
          (gathers (root_of c.root.inside.seat.me.0) (pass_of c.pass.inside.seat.me.0))
          (ap (λ t. t.0) after),
    )

pub invariant_of-root : goal.invariant_of-root
invariant_of-root c =
    (looked_seat c.join_seat.new.seat.me c.load.new.seat.me
    (gathers (root_of c.root.inside.seat.me.0) (pass_of c.pass.inside.seat.me.0))
    (gathered_seat c.root.inside.seat.me c.join_seat.new.seat.me c.pass.inside.seat.me.0
    c.root.invariant.view (ap (λ t. t.0) c.pass.invariant) c.join_seat.ensures.2)
    c.load.ensures.2).0

pub returns-clause-closed : goal.returns-clause-closed
returns-clause-closed c =
    ((looked_seat c.join_seat.new.seat.me c.load.new.seat.me
    (gathers (root_of c.root.inside.seat.me.0) (pass_of c.pass.inside.seat.me.0))
    (gathered_seat c.root.inside.seat.me c.join_seat.new.seat.me c.pass.inside.seat.me.0
    c.root.invariant.view (ap (λ t. t.0) c.pass.invariant) c.join_seat.ensures.2)
    c.load.ensures.2).0).closed
