use Rattle.std.proofs.Common.{[], length, rules, ◌++◌, ◌∙◌, ◌∷◌, ◌≡◌, ◌≤◌}
use Rattle.csv.specs.Writing.{default_writer, field_text}
use Rattle.mb_data.specs.HeaderText.{count_word}
use Rattle.mb_data.specs.loops.Commas.{with_commas}
use Rattle.mb_data.proofs.WrittenRows.{row_end}
use Rattle.mb_data.proofs.writing.push_header.Goals as goal

pub returns : goal.returns
returns c =
    let fields = c.args.dataset.now.factors in
    let front = c.args.out.now.items in
    let some : 1 ≤ length fields = search rules in
    let pushed : c.push.new.self.items
    ≡ ((front ++ with_commas fields) ++ field_text default_writer count_word)
    ++ 10 ∷ [] = search rules in
    pushed ∙ row_end fields count_word front some
