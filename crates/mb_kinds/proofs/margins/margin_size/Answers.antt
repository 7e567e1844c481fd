use Rattle.std.proofs.Common.{length, rules, ◌*◌, ◌<◌, ◌≤◌}
use Rattle.mb_kinds.proofs.Levels.{all_counted, count_more, is_some, many_counted, many_levels, some_product}
use Rattle.mb_kinds.proofs.margins.margin_size.Goals as goal

pub returns-then-levels : goal.returns-then-levels
returns-then-levels c =
    let i = c.loop-factor.factor-index in
    let within : i < length c.args.factors.now = search rules in
    let many : 64 < c.levels-levels.result = search rules in
    many_levels c.args.dataset.now c.factors-sound.ensures.sound c.args.factors.now
    c.requires i within
    c.levels-levels.result c.levels-levels.ensures c.loop-factor.count _
    c.loop-factor.invariant.some many c.loop-factor.invariant.total

pub returns-then-count-gt-MOST_CELLS : goal.returns-then-count-gt-MOST_CELLS
returns-then-count-gt-MOST_CELLS c =
    let i = c.loop-factor.factor-index in
    let within : i < length c.args.factors.now = search rules in
    let many : 64 < c.loop-factor.count * c.levels-levels.result = search rules in
    many_counted c.args.dataset.now c.factors-sound.ensures.sound c.args.factors.now
    c.requires i within
    c.levels-levels.result c.levels-levels.ensures c.loop-factor.count _
    many c.loop-factor.invariant.total

pub loop-factor-preserved : goal.loop-factor-preserved
loop-factor-preserved c =
    let i = c.loop-factor.factor-index in
    let within : i < length c.args.factors.now = search rules in
    record {
      total = count_more c.args.dataset.now c.factors-sound.ensures.sound c.args.factors.now
          c.requires i within
          c.levels-levels.result c.levels-levels.ensures c.loop-factor.count _
          c.loop-factor.invariant.total;
      some = some_product c.loop-factor.count c.levels-levels.result c.loop-factor.invariant.some
          (is_some c.args.dataset.now c.factors-sound.ensures.sound c.args.factors.now
          c.requires i within
          c.levels-levels.result c.levels-levels.ensures);
      few = search rules;
    }

pub returns : goal.returns
returns c =
    let past : length c.args.factors.now ≤ c.loop-factor.factor-index = search rules in (
      all_counted c.args.dataset.now.levels c.args.factors.now c.loop-factor.factor-index
          c.loop-factor.count _ past c.loop-factor.invariant.total,
      c.loop-factor.invariant.few,
    )
