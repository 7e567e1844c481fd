use Rattle.std.proofs.Common.{ap, sym, ◌∙◌}
use Rattle.mb_claims.proofs.ProbeSteps.{some_words}
use Rattle.mb_claims.proofs.Splitting.{splits-kept}
use Rattle.mb_claims.specs.Claims.{RootSeat, ShardWords}
use Rattle.mb_claims.specs.View.{root_of}
use Rattle.mb_claims.proofs.shards.Shards.split.Goals as goal

pub split_seat-requires : goal.split_seat-requires
split_seat-requires c = (
  ap (λ (r : RootSeat). r.table) c.root.view_is ∙ c.requires.ours.0
      ∙ ap (λ (s : ShardWords). s.table) (sym c.self.view_is),
  some_words c.self.invariant,
  splits-kept c.self.inside.table.shared.key.items c.root.inside.seat.id
      c.root.inside.seat.me.0 (root_of c.root.inside.seat.me.0)
      (ap (λ t. t.0) c.root.invariant.view),
)
