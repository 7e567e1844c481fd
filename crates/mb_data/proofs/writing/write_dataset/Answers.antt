use Rattle.std.proofs.Common.{[], rules, ◌++◌, ◌∙◌, ◌∷◌, ◌≡◌}
use Rattle.csv.specs.Writing.{default_writer, row_text}
use Rattle.mb_data.specs.HeaderText.{count_word}
use Rattle.mb_data.specs.Written.{record_of}
use Rattle.mb_data.proofs.WrittenRows.{record_more}
use Rattle.mb_data.proofs.writing.write_dataset.Goals as goal

pub loop-number-preserved : goal.loop-number-preserved
loop-number-preserved c =
    let table = c.args.dataset.now in
    let pushed : c.push_record.new.out.items
    ≡ c.loop-number.text.items ++ row_text default_writer
    (record_of table c.loop-number.number) = search rules in
    pushed
    ∙ record_more (table.factors ++ count_word ∷ []) (record_of table) c.loop-number.number
    c.loop-number.text.items c.loop-number.invariant
