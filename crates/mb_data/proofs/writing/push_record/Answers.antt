use Rattle.std.proofs.Common.{[], ap, length, rules, sym, ◌++◌, ◌∙◌, ◌∷◌, ◌≡◌, ◌≤◌}
use Rattle.std.proofs.lemmas.Option.{get_or_from_slice_get}
use Rattle.csv.specs.Writing.{default_writer, field_text, row_text}
use Rattle.mb_data.specs.CrossTable.{combination, named, sizes}
use Rattle.mb_data.specs.Written.{entry_text}
use Rattle.mb_data.specs.declared.entry.Entry.{Entry}
use Rattle.mb_data.specs.declared.entry.Entry.TheVariants.{StructuralZero}
use Rattle.mb_data.specs.loops.Commas.{with_commas}
use Rattle.mb_data.proofs.WrittenRows.{row_end}
use Rattle.mb_data.proofs.writing.push_record.Goals as goal

pub returns : goal.returns
returns c =
    let levels = c.args.dataset.now.levels in
    let fields = named levels (combination (sizes levels) c.args.number) in
    let front = c.args.out.now.items in
    let some : 1 ≤ length fields = search rules in
    let pushed : c.push.new.self.items
    ≡ ((front ++ with_commas fields) ++ field_text default_writer (entry_text c.entry.result))
    ++ 10 ∷ [] = search rules in
    let at = get_or_from_slice_get c.args.dataset.now.entries c.args.number c.entry.result
    StructuralZero c.entry.ensures in
    pushed ∙ row_end fields (entry_text c.entry.result) front some
    ∙ ap (λ (e : Entry). front ++ row_text default_writer (fields ++ entry_text e ∷ [])) (sym at)
