use Rattle.std.proofs.Common.{List, Vec, Global, ap, get_or, length, option_map, rules, subst, sym, ◌<◌, ◌∙◌, ◌≡◌, Ok, ℕ, Result}
use Rattle.std.specs.List.{flat_map, range_with_len}
use Rattle.mb_kinds.specs.Generators.{base_for, cell_count, margin_rows, margin_size}
use Rattle.mb_kinds.specs.Model.{ModelValue}
use Rattle.mb_kinds.specs.ModelText.{kind_cause}
use Rattle.mb_kinds.specs.declared.kind_fault.KindFault.{KindFault}
use Rattle.mb_kinds.specs.loops.Placed.{end_to_end}
use Rattle.mb_kinds.proofs.Chains.{base_length, entries_full, first_at, made, too_many, too_many_first}
use Rattle.mb_kinds.proofs.hierarchical.margins_model.Goals as goal
use Rattle.mb_matrix.specs.Measure.{RowMargins}
use Rattle.mb_tables.specs.Answers.{Gives}

pub returns-in_default : goal.returns-in_default
returns-in_default c =
    let given = option_map (λ (v : Vec ℕ Global). v.items) c.args.given in
    let has : base_for (cell_count c.args.dataset.now) given
    ≡ Ok c.in_ok-base.base.items = search rules in
    let many : 64 < length (flat_map (margin_rows c.args.dataset.now) c.args.generators.now) =
    search rules in
    too_many c.args.dataset.now c.cells-count.ensures.sound c.args.generators.now given
    c.in_ok-base.base.items has many

pub returns-in_default-margin_size : goal.returns-in_default-margin_size
returns-in_default-margin_size c =
    let given = option_map (λ (v : Vec ℕ Global). v.items) c.args.given in
    let has : base_for (cell_count c.args.dataset.now) given
    ≡ Ok c.in_ok-base.base.items = search rules in
    let g = c.as_slice-2.result.now in
    let there : get_or c.args.generators.now 0 g ≡ g = search rules in
    let at = first_at c.args.generators.now g c.requires.some there in
    let many : 64 < margin_size c.args.dataset.now g = search rules in
    too_many_first c.args.dataset.now c.cells-count.ensures.sound c.args.generators.now given
    c.in_ok-base.base.items has c.requires.some
    (subst (λ (g : List ℕ). 64 < margin_size c.args.dataset.now g) (sym at) many)

pub model_on-requires-clause-entries : goal.model_on-requires-clause-entries
model_on-requires-clause-entries c =
    let is : c.as_slice-3.result.now ≡ end_to_end
    (flat_map (margin_rows c.args.dataset.now) c.args.generators.now) = search rules in
    let count : c.in-Some.rows ≡ length (flat_map (margin_rows c.args.dataset.now)
    c.args.generators.now) = search rules in
    ap length is
    ∙ entries_full c.args.dataset.now c.args.generators.now c.in-Some.rows c.cells-count.result
    count c.cells-count.ensures.cells

pub model_on-requires-clause-base : goal.model_on-requires-clause-base
model_on-requires-clause-base c =
    let given = option_map (λ (v : Vec ℕ Global). v.items) c.args.given in
    let has : base_for c.cells-count.result given ≡ Ok c.as_slice-4.result.now = search rules in
    base_length c.cells-count.result given c.as_slice-4.result.now has

pub returns : goal.returns
returns c =
    let table = c.args.dataset.now in
    let given = option_map (λ (v : Vec ℕ Global). v.items) c.args.given in
    let has : base_for (cell_count table) given ≡ Ok c.as_slice-4.result.now = search rules in
    let is : c.as_slice-3.result.now ≡ end_to_end
    (flat_map (margin_rows table) c.args.generators.now) = search rules in
    let count : c.in-Some.rows ≡ length (flat_map (margin_rows table) c.args.generators.now) =
    search rules in
    let g = c.as_slice-2.result.now in
    let there : get_or c.args.generators.now 0 g ≡ g = search rules in
    let at = first_at c.args.generators.now g c.requires.some there in
    let first : c.in-Some-margin_size.first ≡ margin_size table g = search rules in
    let numbers : c.in_ok-first_rows.field-0.items
    ≡ range_with_len 1 c.in-Some-margin_size.first = search rules in
    let scale = ap RowMargins (numbers ∙ ap (range_with_len 1) first
    ∙ ap (λ (g : List ℕ). range_with_len 1 (margin_size table g)) (sym at)) in
    subst (λ (says : Result ModelValue KindFault). Gives kind_cause (λ m. m) c.model_on.result says)
    (made table c.cells-count.ensures.sound c.args.generators.now given c.as_slice-4.result.now has
    c.in-Some.rows c.cells-count.result c.as_slice-3.result.now
    (RowMargins c.in_ok-first_rows.field-0.items)
    c.cells-count.ensures.cells count is scale)
    c.model_on.ensures
