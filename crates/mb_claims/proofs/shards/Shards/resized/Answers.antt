use Rattle.std.proofs.Common.{List, ap, get_or, length, subst, sym, ℕ, ◌∙◌, ◌≤◌}
use Rattle.mb_claims.proofs.Growing.{grown_keys}
use Rattle.mb_claims.specs.Claims.{RootSeat}
use Rattle.mb_claims.specs.loops.Stored.{Stores}
use Rattle.mb_claims.proofs.shards.Shards.resized.Goals as goal

pub returns-in-Ok-clause-keys : goal.returns-in-Ok-clause-keys
returns-in-Ok-clause-keys c =
    let old = c.args.self.sizes in
    let sizes = c.in-Ok.ensures.sizes in
    let stored : Stores old c.close-old.result c.args.root.now.knows.gathered =
    subst (λ (r : RootSeat). Stores old c.close-old.result r.knows.gathered)
    c.replace.ensures.value c.close-old.ensures in
    grown_keys old c.in-Ok.next.sizes c.close-old.result c.args.root.now.knows.gathered
    c.refill.new.root.knows stored (c.refill.ensures.closed c.refill.ensures.none_open)
    c.refill.ensures.ours.1 (ap (λ (l : List ℕ). length l) sizes ∙ c.requires.count)
    (subst (λ (l : List ℕ). (shard : ℕ) → get_or old shard 0 ≤ get_or l shard 0) (sym sizes)
    c.requires.larger)
    c.refill.ensures.known c.refill.ensures.told
