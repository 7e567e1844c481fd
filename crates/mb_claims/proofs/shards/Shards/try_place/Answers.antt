use Rattle.std.proofs.Common.{List, ap, subst, sum, sym, ℕ, ◌<◌, ◌≡◌, ◌∙◌}
use Rattle.mb_claims.proofs.WordSteps.{IsNext-within, pass_kept, tries-kept}
use Rattle.mb_claims.specs.ClaimStep.{IsNext}
use Rattle.mb_claims.specs.Claims.{PassSeat, ShardWords}
use Rattle.mb_claims.specs.View.{pass_of}
use Rattle.mb_claims.specs.declared.views.PassView.{PassView}
use Rattle.mb_claims.proofs.shards.Shards.try_place.Goals as goal

pub compare_exchange-requires : goal.compare_exchange-requires
compare_exchange-requires c =
    let sizes_are : c.args.self.now.sizes ≡ c.self.inside.sizes.items =
    ap (λ (s : ShardWords). s.sizes) (sym c.self.view_is) in
    let ruled : c.args.self.now.sizes ≡ c.self.inside.table.shared.key.items =
    sizes_are ∙ sym c.self.invariant.same in
    let pass : PassView = pass_of c.pass.inside.seat.me.0 in
    let knows : c.args.pass.now.knows ≡ pass =
    ap (λ (p : PassSeat). p.knows) (sym c.pass.view_is) in
    let next : IsNext c.self.inside.table.shared.key.items pass c.args.key c.args.place =
    subst (λ (sizes : List ℕ). IsNext sizes pass c.args.key c.args.place) ruled
    (subst (λ (p : PassView). IsNext c.args.self.now.sizes p c.args.key c.args.place) knows
    c.requires.next) in
    let same_table : c.pass.inside.seat.table_id ≡ c.self.inside.table.shared.table_id =
    ap (λ (p : PassSeat). p.table) c.pass.view_is ∙ c.requires.ours.0
    ∙ ap (λ (s : ShardWords). s.table) (sym c.self.view_is) in
    let total : sum c.args.self.now.sizes ≡ c.self.inside.table.shared.table_id.words =
    ap sum sizes_are ∙ sym c.self.invariant.total in (
      same_table,
      subst (λ (n : ℕ). c.args.place < n) total (IsNext-within c.requires.next),
      tries-kept c.self.inside.table.shared.key.items c.self.inside.table.shared.table_id.slots
          c.pass.inside.seat.id c.pass.inside.seat.me pass c.args.key c.args.place
          (ap (λ t. t.0) c.pass.invariant) next,
    )

pub invariant_of-pass : goal.invariant_of-pass
invariant_of-pass c =
    pass_kept c.pass.inside.seat.me c.compare_exchange.new.seat.me _
    (ap (λ t. t.1) c.pass.invariant) (c.compare_exchange.ensures.2 (pass_of c.pass.inside.seat.me.0)
    (ap (λ t. t.0) c.pass.invariant))
