use Rattle.std.proofs.Common.{List, [], ap, subst, sym, ℕ, ◌∙◌, ◌≡◌}
use mathlib.Core.Option.{some}
use Rattle.mb_claims.proofs.RootKnows.{words_store}
use Rattle.mb_claims.specs.Claims.{RootSeat, ShardWords}
use Rattle.mb_claims.specs.View.{root_of}
use Rattle.mb_claims.specs.declared.views.RootView.{RootView}
use Rattle.mb_claims.specs.loops.Stored.{Stores}
use Rattle.mb_claims.proofs.shards.Shards.close.Goals as goal

pub returns : goal.returns
returns c =
    let last = c.close_with.ensures.values.2 in
    let s = last.0 in
    let root : RootView = root_of c.root.inside.seat.me.0 in
    let knows : root ≡ c.args.root.knows = ap (λ (r : RootSeat). r.knows) c.root.view_is in
    let none : root.opened ≡ [] =
    ap (λ (r : RootView). r.opened) knows ∙ c.requires.none_open in
    let stored = words_store c.self.inside.table.shared.key.items s.words s.views last.1.0
    c.root.inside.seat.id root
    (last.1.1 ∙ ap some (ap (λ t. t.0) c.root.invariant.view)) none in
    subst (λ (sizes : List ℕ). Stores sizes c.of.result c.args.root.knows.gathered)
    (c.self.invariant.same ∙ ap (λ (w : ShardWords). w.sizes) c.self.view_is)
    (subst (λ (words : List ℕ).
    Stores c.self.inside.table.shared.key.items words c.args.root.knows.gathered)
    (last.2 ∙ sym c.of.ensures)
    (subst (λ (r : RootView). Stores c.self.inside.table.shared.key.items s.words r.gathered)
    knows stored))
