use Rattle.std.proofs.Common.{List, length, rules, subst, sym, ◌<◌, ◌≡◌, ℕ}
use Rattle.mb_kinds.specs.Generators.{factors_named}
use Rattle.mb_kinds.specs.loops.Placed.{IsPlaced}
use Rattle.mb_kinds.proofs.Placing.{is_placed}
use Rattle.mb_kinds.proofs.rasch.are_binary.Goals as goal

pub levels-requires : goal.levels-requires
levels-requires c =
    let named : c.as_slice-factor-items.result.now
    ≡ factors_named c.args.dataset.now.factors c.args.names.now = search rules in
    let within : c.loop-factor.factor-index
    < length c.as_slice-factor-items.result.now = search rules in
    subst (λ (list : List ℕ). IsPlaced c.args.dataset.now list) (sym named)
    (is_placed c.args.dataset.now c.args.names.now) c.loop-factor.factor-index 0 within
