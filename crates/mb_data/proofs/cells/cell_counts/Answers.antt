use Rattle.std.proofs.Common.{ap, get_or, length, rules, sym, ◌++◌, ◌<◌, ◌∙◌, ◌∷◌, [], ◌≡◌}
use Rattle.mb_data.specs.declared.entry.Entry.TheVariants.{Count, StructuralZero}
use Rattle.mb_data.proofs.CellLists.{counts_more, counts_same}
use Rattle.mb_data.proofs.cells.cell_counts.Goals.{in-Count+in_ok-push-in-Count, in-StructuralZero}
use Rattle.mb_data.proofs.cells.cell_counts.Goals as goal

pub loop-entry-preserved : goal.loop-entry-preserved
loop-entry-preserved c =
    let within : c.loop-entry.entry-index < length c.args.entries.now = search rules in
    elim c.match-entry.branch [
      | in-Count+in_ok-push-in-Count w ↦
          let is : get_or c.args.entries.now c.loop-entry.entry-index (Count 0)
          ≡ Count w.in-Count.count = search rules in
          let pushed : c.match-entry.list.items ≡ c.loop-entry.list.items
          ++ w.in-Count.count ∷ [] = search rules in
          pushed ∙ ap (λ list. list ++ w.in-Count.count ∷ []) c.loop-entry.invariant
          ∙ sym (counts_more c.args.entries.now c.loop-entry.entry-index w.in-Count.count within is)
      | in-StructuralZero w ↦
          let is : get_or c.args.entries.now c.loop-entry.entry-index (Count 0)
          ≡ StructuralZero = search rules in
          let kept : c.match-entry.list.items ≡ c.loop-entry.list.items = search rules in
          kept ∙ c.loop-entry.invariant
          ∙ sym (counts_same c.args.entries.now c.loop-entry.entry-index within is)
    ]
