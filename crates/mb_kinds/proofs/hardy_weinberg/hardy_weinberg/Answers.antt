use Rattle.std.proofs.Common.{Ok, Result, ap, length, map, rules, subst, sym, ◌∙◌, ◌≡◌}
use Rattle.std.specs.List.{range_with_len}
use Rattle.mb_kinds.specs.Kinds.{class_row, genotypes, orders}
use Rattle.mb_kinds.specs.Model.{ModelValue}
use Rattle.mb_kinds.specs.ModelText.{classes_at, kind_cause}
use Rattle.mb_kinds.specs.declared.kind_fault.KindFault.{KindFault}
use Rattle.mb_kinds.specs.loops.Placed.{end_to_end}
use Rattle.mb_kinds.proofs.Genotypes.{classes_full, classes_made}
use Rattle.mb_kinds.proofs.hardy_weinberg.hardy_weinberg.Goals as goal
use Rattle.mb_tables.specs.Answers.{Gives}
use Rattle.toml.specs.View.{table_view}

pub model_on-requires-clause-entries : goal.model_on-requires-clause-entries
model_on-requires-clause-entries c =
    let classes = c.in_ok-classes.classes in
    let made : c.in_ok-pairs.pairs.items ≡ genotypes classes = search rules in
    let count : length c.in_ok-pairs.pairs.items ≡ c.cells-cells.result = search rules in
    let is : c.as_slice-3.result.now ≡ end_to_end
    (map (class_row classes) (range_with_len 0 classes)) = search rules in
    classes_full classes c.cells-cells.result c.as_slice-3.result.now
    (ap length (sym made) ∙ count) is

pub returns : goal.returns
returns c =
    let classes = c.in_ok-classes.classes in
    let has : classes_at (table_view c.args.text.now) ≡ Ok classes = search rules in
    let made : c.in_ok-pairs.pairs.items ≡ genotypes classes = search rules in
    let count : length c.in_ok-pairs.pairs.items ≡ c.cells-cells.result = search rules in
    let is : c.as_slice-3.result.now ≡ end_to_end
    (map (class_row classes) (range_with_len 0 classes)) = search rules in
    let base : c.as_slice-4.result.now ≡ map orders (genotypes classes) = search rules in
    subst (λ (says : Result ModelValue KindFault). Gives kind_cause (λ m. m) c.model_on.result says)
    (classes_made c.args.dataset.now (table_view c.args.text.now) classes c.cells-cells.result
    c.as_slice-3.result.now c.as_slice-4.result.now has (ap length (sym made) ∙ count)
    c.cells-cells.ensures.cells is base)
    c.model_on.ensures
