use Rattle.std.proofs.Common.{ap, arith, get_or, length, rules, sym, take, ◌+◌, ◌++◌, ◌<◌, ◌∙◌, ◌≡◌}
use Rattle.std.proofs.lemmas.List.{length-append}
use Rattle.std.specs.List.{flat_map}
use Rattle.mb_kinds.specs.Generators.{margin_rows, margin_size}
use Rattle.mb_kinds.specs.loops.Placed.{end_to_end}
use Rattle.mb_kinds.proofs.RowSteps.{end_to_end-append, length-margin_rows, rows_left, rows_more}
use Rattle.mb_kinds.proofs.margins.all_rows.Goals as goal

pub returns-in_default : goal.returns-in_default
returns-in_default c =
    let g = c.as_slice-factors.result.now in
    let i = c.loop-generator.generator-index in
    let within : i < length c.args.generators.now = search rules in
    let at : get_or c.args.generators.now i g ≡ g = search rules in
    let many : 64 < margin_size c.args.dataset.now g = search rules in
    let size = length-margin_rows c.args.dataset.now g in
    let left = rows_left (margin_rows c.args.dataset.now) c.args.generators.now i g within at in
    omega (arith, many, size, left)

pub returns-then-count-gt-MOST_CELLS : goal.returns-then-count-gt-MOST_CELLS
returns-then-count-gt-MOST_CELLS c =
    let g = c.as_slice-factors.result.now in
    let i = c.loop-generator.generator-index in
    let within : i < length c.args.generators.now = search rules in
    let at : get_or c.args.generators.now i g ≡ g = search rules in
    let is : c.in-Some.size ≡ margin_size c.args.dataset.now g = search rules in
    let many : 64 < c.loop-generator.count + c.in-Some.size = search rules in
    let before = c.loop-generator.invariant.size in
    let size = length-margin_rows c.args.dataset.now g in
    let left = rows_left (margin_rows c.args.dataset.now) c.args.generators.now i g within at in
    omega (arith, is, many, before, size, left)

pub loop-generator-preserved : goal.loop-generator-preserved
loop-generator-preserved c =
    let g = c.as_slice-factors.result.now in
    let i = c.loop-generator.generator-index in
    let rows = margin_rows c.args.dataset.now in
    let front = flat_map rows (take i c.args.generators.now) in
    let within : i < length c.args.generators.now = search rules in
    let at : get_or c.args.generators.now i g ≡ g = search rules in
    let is : c.in-Some.size ≡ margin_size c.args.dataset.now g = search rules in
    let pushed : c.in_ok-entries.entries.items ≡ c.loop-generator.entries.items
    ++ end_to_end (rows g) = search rules in
    let more = rows_more rows c.args.generators.now i g within at in
    let long = ap length more in
    let both = length-append front (rows g) in
    let size = length-margin_rows c.args.dataset.now g in
    let before = c.loop-generator.invariant.size in
    record {
      rows = pushed ∙ ap (λ l. l ++ end_to_end (rows g)) c.loop-generator.invariant.rows
          ∙ sym (ap end_to_end more ∙ end_to_end-append front (rows g));
      size = omega (arith, is, long, both, size, before);
      few = search rules;
    }
