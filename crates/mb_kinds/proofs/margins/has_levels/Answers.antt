use Rattle.std.proofs.Common.{Bool, ap, drop, false, get_or, length, nat_eq, refl, rules, sym, true, ◌%◌, ◌&&◌, ◌+◌, ◌/◌, ◌<◌, ◌∙◌, ◌≡◌, ◌≤◌}
use Rattle.std.proofs.lemmas.List.{drop_all}
use Rattle.std.proofs.lemmas.Nat.{mod_below}
use Rattle.mb_kinds.proofs.Levels.{is_left, is_positive, is_some, same, same_left, same_nil}
use Rattle.mb_kinds.proofs.margins.has_levels.Goals as goal

pub nonzero_div-size : goal.nonzero_div-size
nonzero_div-size c =
    let within : c.loop-factor.factor-index < length c.args.factors.now = search rules in
    is_some c.args.dataset.now c.factors-sound.ensures.sound c.args.factors.now c.requires.placed
    c.loop-factor.factor-index within c.levels-size.result c.levels-size.ensures

pub nonzero_div-left : goal.nonzero_div-left
nonzero_div-left c =
    let within : c.loop-factor.factor-index < length c.args.factors.now = search rules in
    is_positive c.args.dataset.now c.factors-sound.ensures.sound
    c.args.factors.now c.requires.placed
    c.loop-factor.factor-index within c.levels-size.result c.levels-size.ensures
    c.loop-factor.size c.loop-factor.invariant.size

pub returns-then-left-size : goal.returns-then-left-size
returns-then-left-size c =
    let i = c.loop-factor.factor-index in
    let within : i < length c.args.factors.now = search rules in
    let rest = c.loop-factor.size / c.levels-size.result in
    let levels = c.args.dataset.now.levels in
    let unequal : nat_eq (c.loop-factor.left / rest) c.level_in.result ≡ false = search rules in
    sym (c.loop-factor.invariant.same
    ∙ same_left levels c.args.factors.now i (get_or c.args.factors.now i 0)
    c.loop-factor.left c.args.cell
    c.level_in.result rest within refl c.level_in.ensures.level
    (is_left c.args.dataset.now c.factors-sound.ensures.sound c.args.factors.now c.requires.placed
    i within c.levels-size.result c.levels-size.ensures c.loop-factor.size
    c.loop-factor.invariant.size)
    ∙ ap (λ (b : Bool). b && same levels (drop (i + 1) c.args.factors.now)
    (c.loop-factor.left % rest) c.args.cell)
    unequal)

pub nonzero_rem-left : goal.nonzero_rem-left
nonzero_rem-left c =
    let within : c.loop-factor.factor-index < length c.args.factors.now = search rules in
    is_positive c.args.dataset.now c.factors-sound.ensures.sound
    c.args.factors.now c.requires.placed
    c.loop-factor.factor-index within c.levels-size.result c.levels-size.ensures
    c.loop-factor.size c.loop-factor.invariant.size

pub loop-factor-preserved : goal.loop-factor-preserved
loop-factor-preserved c =
    let i = c.loop-factor.factor-index in
    let within : i < length c.args.factors.now = search rules in
    let rest = c.loop-factor.size / c.levels-size.result in
    let levels = c.args.dataset.now.levels in
    let equal : nat_eq (c.loop-factor.left / rest) c.level_in.result ≡ true = search rules in
    let left = is_left c.args.dataset.now c.factors-sound.ensures.sound
    c.args.factors.now c.requires.placed
    i within c.levels-size.result c.levels-size.ensures c.loop-factor.size
    c.loop-factor.invariant.size in
    record {
      size = left;
      left = mod_below c.loop-factor.left rest
          (is_positive c.args.dataset.now c.factors-sound.ensures.sound
          c.args.factors.now c.requires.placed
          i within c.levels-size.result c.levels-size.ensures c.loop-factor.size
          c.loop-factor.invariant.size);
      same = c.loop-factor.invariant.same
          ∙ same_left levels c.args.factors.now i (get_or c.args.factors.now i 0)
          c.loop-factor.left c.args.cell
          c.level_in.result rest within refl c.level_in.ensures.level left
          ∙ ap (λ (b : Bool). b && same levels (drop (i + 1) c.args.factors.now)
          (c.loop-factor.left % rest) c.args.cell)
          equal;
    }

pub returns : goal.returns
returns c =
    let past : length c.args.factors.now ≤ c.loop-factor.factor-index = search rules in
    sym (c.loop-factor.invariant.same
    ∙ ap (λ g. same c.args.dataset.now.levels g c.loop-factor.left c.args.cell)
    (drop_all c.loop-factor.factor-index c.args.factors.now past)
    ∙ same_nil c.args.dataset.now.levels c.loop-factor.left c.args.cell)
